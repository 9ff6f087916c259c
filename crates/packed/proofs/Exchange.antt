-- One of eight digits replaced, and one argument of a transition replaced.
use mathlib.Core.Bool.{Bool, false, true}
use mathlib.Core.List.{List, map}
use mathlib.Core.Path.{◌∙◌, ◌≡◌, ap, refl, sym}
use Prim.Native.Nat.{◌*◌, ◌+◌, ◌-◌, ◌<◌, ◌^◌, ◌≤◌, ℕ}
use native.Mathlib.Nat.{zero-add}
use native.Mathlib.Omega.{arith}
use lib.Dec.{eqb, ltb}
use lib.ListN.{get_or-eq_default, get_or, length}
use borrow.Author.Tests.{eqb-false, eqb-true, ltb-false, ltb-true}
use Rattle.fields.specs.Entries.{put_at}
use Rattle.format.specs.Format.{AllBytes, args_at, byte_pairs, byte_values, max_arity}
use Rattle.lists.specs.Positions.{up_from}
use Rattle.packed.specs.Packed.{Padded, digits, meta_at, packed, packed_at, padded}
use Rattle.packed.specs.Seeking.{Packs}
use Rattle.table.specs.Layout.{arg_of, arity_of, label_of}
use Rattle.fields.proofs.Entries.{put_other, put_same}
use Rattle.lists.proofs.Intervals.{get_d-tabulated, length-tabulated}
use Rattle.packed.proofs.Digits.{digits_same}
use Rattle.packed.proofs.Shifts.{digits-below}
use Rattle.packed.proofs.Walks.{digit-adds}

-- the value of a 1 at place k
abbrev pub place_unit : ℕ → ℕ
place_unit k = 2 ^ (8 * (7 - k))

-- a number is the number with 0 at place k plus the digit there
digits-place : (f : ℕ → ℕ) (k : ℕ) → k < max_arity →
    digits f 0 max_arity 0 ≡ digits (put_at f k 0) 0 max_arity 0 + f k * place_unit k
digits-place f k h = digit-adds f (put_at f k 0) k h (put_same f k 0) (λ j d. sym (put_other f k 0 j d))

-- a number with q for the digit at place k
digits-put : (f : ℕ → ℕ) (k q : ℕ) → k < max_arity →
    digits (put_at f k q) 0 max_arity 0 + f k * place_unit k ≡ digits f 0 max_arity 0 + q * place_unit k
digits-put f k q h =
    let g = put_at f k q in
    let other = digit-adds g (put_at f k 0) k h (put_same f k 0)
    (λ j d. put_other f k q j d ∙ sym (put_other f k 0 j d)) in
    let here = ap (λ x. x * place_unit k) (put_same f k q) in
    omega (arith, digits-place f k h, other, here)

-- a transition's arguments with q for argument k
abbrev pub exchanged_args : List ℕ → ℕ → ℕ → ℕ → List ℕ
exchanged_args s at k q = map (put_at (arg_of s at) k q) (up_from 0 (arity_of s at))

module _ (s : List ℕ) (at k : ℕ) (narrow : Padded s at) (h : k < arity_of s at) where
  pub place_inside : arg_of s at k * place_unit k ≤ packed_at s at
  unfolding packed_at
  place_inside = omega (arith, digits-place (arg_of s at) k (omega (arith, narrow.narrow)))

  module _ (q : ℕ) where
    pub exchanged-size : length (exchanged_args s at k q) ≡ arity_of s at
    exchanged-size = length-tabulated (put_at (arg_of s at) k q) 0 (arity_of s at)

    exchanged-at : (j : ℕ) → j < arity_of s at → get_or (exchanged_args s at k q) j 0 ≡ put_at (arg_of s at) k q j
    exchanged-at j l =
        get_d-tabulated (put_at (arg_of s at) k q) 0 (arity_of s at) j 0 l ∙ ap (put_at (arg_of s at) k q) (zero-add j)

    pub exchanged-here : get_or (exchanged_args s at k q) k 0 ≡ q
    exchanged-here = exchanged-at k h ∙ put_same (arg_of s at) k q

    digits-exchanged : packed_at s at - arg_of s at k * place_unit k + q * place_unit k ≡
        digits (put_at (arg_of s at) k q) 0 max_arity 0
    unfolding packed_at
    digits-exchanged =
        omega (arith, digits-put (arg_of s at) k q (omega (arith, narrow.narrow)), place_inside)

    pub exchanged-number : packed_at s at - arg_of s at k * place_unit k + q * place_unit k ≡
        packed (exchanged_args s at k q)
    unfolding packed
    exchanged-number =
        digits-exchanged ∙ digits_same (put_at (arg_of s at) k q) (padded (exchanged_args s at k q)) 0 max_arity 0
        (λ j a b. sym (place j (omega arith) (ltb j (arity_of s at)) refl))
      where
        place : (j : ℕ) → j < max_arity → (b : Bool) → ltb j (arity_of s at) ≡ b →
            get_or (exchanged_args s at k q) j 0 ≡ put_at (arg_of s at) k q j
        place j l true e = exchanged-at j (ltb-true j (arity_of s at) e)
        place j l false e = let o = ltb-false j (arity_of s at) e in
            get_or-eq_default (exchanged_args s at k q) 0 (omega (arith, exchanged-size)) ∙ sym (narrow.rest j o l)
            ∙ sym (put_other (arg_of s at) k q j (λ z. omega arith))

  module _ (bytes : AllBytes s) (q : ℕ) (small : q < byte_values) where
    bytes-put : (j : ℕ) → put_at (arg_of s at) k q j < byte_values
    bytes-put j = go (eqb j k) refl
      where
        go : (b : Bool) → eqb j k ≡ b → put_at (arg_of s at) k q j < byte_values
        go true e = omega (arith, ap (put_at (arg_of s at) k q) (eqb-true j k e), put_same (arg_of s at) k q)
        go false e = omega (arith, put_other (arg_of s at) k q j (eqb-false j k e), bytes (at + args_at + j))

    pub exchanged-fits : packed_at s at - arg_of s at k * place_unit k + q * place_unit k < 2 ^ 64
    exchanged-fits = omega (arith, digits-exchanged q, digits-below (put_at (arg_of s at) k q) bytes-put 0 max_arity)

    -- the numbers of the transition with q for its argument k
    pub exchanged-packs : Packs (meta_at s at) (packed_at s at - arg_of s at k * place_unit k + q * place_unit k)
        (label_of s at) (exchanged_args s at k q)
    exchanged-packs = record {
      meta = ap (λ n. byte_pairs * n + label_of s at) (sym (exchanged-size q));
      args = exchanged-number q;
      label = omega (arith, bytes at, bytes (at + 1));
      list = record {
        short = omega (arith, exchanged-size q, narrow.narrow);
        bytes = λ j. byte j (ltb j (arity_of s at)) refl;
      };
    }
      where
        byte : (j : ℕ) (b : Bool) → ltb j (arity_of s at) ≡ b → get_or (exchanged_args s at k q) j 0 < byte_values
        byte j true e = omega (arith, exchanged-at q j (ltb-true j (arity_of s at) e), bytes-put j)
        byte j false e = let o = ltb-false j (arity_of s at) e in
            let z : get_or (exchanged_args s at k q) j 0 ≡ 0 = get_or-eq_default (exchanged_args s at k q) 0
            (omega (arith, exchanged-size q)) in
            omega arith

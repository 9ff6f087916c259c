-- Packing a transition into two numbers and unpacking it gives the transition back.
use mathlib.Core.List.{List, map}
use mathlib.Core.Path.{◌∙◌, ◌≡◌, ap, ap₂, refl, subst, sym}
use Prim.Native.Nat.{◌%◌, ◌*◌, ◌+◌, ◌-◌, ◌/◌, ◌<◌, ◌^◌, ◌≤◌, suc, ℕ}
use native.Mathlib.Nat.{zero-add}
use native.Mathlib.Numerals.{add-one}
use native.Mathlib.Omega.{arith}
use lib.ListN.{get_or-eq_default, get_or, length}
use lib.Pow.{high}
use lib.Seq.{get_or-take}
use Rattle.automata.specs.Automaton.{Transition}
use Rattle.format.specs.Format.{byte_pairs, byte_values, max_arity, max_label}
use Rattle.lists.specs.Positions.{up_from}
use Rattle.lists.specs.Tests.{◌∈◌}
use Rattle.packed.specs.Heads.{HoldsEntries, HoldsPacked, Packs, Room, head_arity, head_label, head_meta, head_of}
use Rattle.packed.specs.Heads.{head_out, nth_packed, packed_args, packed_in, packed_transition, place_of}
use Rattle.packed.specs.Packed.{digits, packed, padded}
use Rattle.table.specs.Layout.{blank}
use Rattle.lists.proofs.Intervals.{get_d-in, get_d_map, tabulated}
use Rattle.packed.proofs.Order.{Packable}
use Rattle.packed.proofs.Shifts.{digits-below, digits-cut, digits-split}

-- the last digit
pub digits_last : (f : ℕ → ℕ) (n : ℕ) → digits f 0 (suc n) 0 ≡ byte_values * digits f 0 n 0 + f n
digits_last f n =
    let e : 0 + n ≡ n = omega arith in
    ap (λ j. digits f 0 j 0) (sym (add-one n)) ∙ digits-cut f n 0 1 0
    ∙ ap (λ j. byte_values * digits f 0 n 0 + f j) e

-- eight digits, split after digit k
pub digits-after : (f : ℕ → ℕ) (k : ℕ) → k < max_arity →
    digits f 0 max_arity 0 ≡ digits f 0 (suc k) 0 * 2 ^ (8 * (7 - k)) + digits f (suc k) (7 - k) 0
digits-after f k h =
    let e : max_arity ≡ suc k + (7 - k) = omega arith in
    let d : 0 + suc k ≡ suc k = omega arith in
    ap (λ j. digits f 0 j 0) e ∙ digits-cut f (suc k) 0 (7 - k) 0
    ∙ ap (λ j. digits f j (7 - k) (digits f 0 (suc k) 0)) d
    ∙ digits-split f (suc k) (7 - k) (digits f 0 (suc k) 0)

module _ (f : ℕ → ℕ) (small : (j : ℕ) → f j < byte_values) where
  -- place k of eight digits
  pub place-digits : (k : ℕ) → k < max_arity → place_of (digits f 0 max_arity 0) k ≡ f k
  place-digits k h =
      ap (λ x. x % byte_values) (quotient ∙ digits_last f k) ∙ last (digits f 0 k 0)
    where
      quotient : digits f 0 max_arity 0 / 2 ^ (8 * (7 - k)) ≡ digits f 0 (suc k) 0
      quotient =
          ap (λ x. x / 2 ^ (8 * (7 - k))) (digits-after f k h)
          ∙ high (digits f 0 (suc k) 0) (8 * (7 - k)) (digits-below f small (suc k) (7 - k))

      last : (v : ℕ) → (byte_values * v + f k) % byte_values ≡ f k
      last v = omega (arith, small k)

-- the fields of a transition fit its two numbers
pub record Fitting (τ : Transition) : Type 0 where
  pub label-some : 1 ≤ τ.label
  pub label : τ.label ≤ max_label
  pub args : Packable τ.args
  pub out : τ.out < byte_values

module _ (τ : Transition) (F : Fitting τ) where
  abbrev h : ℕ
  h = head_of τ

  meta-back : head_meta h ≡ byte_pairs * length τ.args + τ.label
  meta-back = omega (arith, F.out)

  out-back : head_out h ≡ τ.out
  out-back = omega (arith, F.out)

  label-back : head_label h ≡ τ.label
  label-back = ap (λ (x : ℕ). x % byte_pairs) meta-back ∙ omega (arith, F.label)

  arity-back : head_arity h ≡ length τ.args
  arity-back = ap (λ (x : ℕ). x / byte_pairs) meta-back ∙ omega (arith, F.label)

  place-back : (k : ℕ) → k < max_arity → place_of (packed_args τ) k ≡ get_or τ.args k 0
  unfolding packed
  place-back k l = place-digits (padded τ.args) F.args.bytes k l

  args-back : map (place_of (packed_args τ)) (up_from 0 (length τ.args)) ≡ τ.args
  args-back =
      tabulated (place_of (packed_args τ)) 0 (length τ.args) 0 τ.args refl
      (λ k l. ap (place_of (packed_args τ)) (zero-add k) ∙ place-back k (omega (arith, F.args.short)))

  pub packed-back : packed_transition (head_of τ) (packed_args τ) ≡ τ
  packed-back = λ i. record {
    label = label-back i;
    args = (ap (λ (k : ℕ). map (place_of (packed_args τ)) (up_from 0 k)) arity-back ∙ args-back) i;
    out = out-back i;
  }

  pub packs : Packs (head_of τ) (packed_args τ)
  packs = record {
    label-some = omega (arith, label-back, F.label-some);
    label = omega (arith, label-back, F.label);
    narrow = omega (arith, arity-back, F.args.short);
    some = λ k l.
        let b : k < length τ.args = omega (arith, arity-back) in
        omega (arith, place-back k (omega (arith, F.args.short)), F.args.some k b);
    rest = λ k l b. place-back k b ∙ get_or-eq_default τ.args 0 (omega (arith, arity-back));
  }

-- arrays that hold the numbers of transitions hold the transitions
module _ {hs us : List ℕ} {n : ℕ} {W : List Transition} (E : HoldsEntries hs us n W)
    (F : (τ : Transition) → τ ∈ W → Fitting τ) where
  abbrev nth : ℕ → Transition
  nth i = get_or W i blank

  fits-nth : (i : ℕ) → i < n → Fitting (nth i)
  fits-nth i l = F (nth i) (get_d-in W i blank (omega (arith, E.size)))

  head-nth : (i : ℕ) → i < n → get_or hs i 0 ≡ head_of (nth i)
  head-nth i l =
      sym (get_or-take n hs i 0 l) ∙ ap (λ (xs : List ℕ). get_or xs i 0) E.heads
      ∙ get_d_map head_of W i blank 0 (omega (arith, E.size))

  args-nth : (i : ℕ) → i < n → get_or us i 0 ≡ packed_args (nth i)
  args-nth i l =
      sym (get_or-take n us i 0 l) ∙ ap (λ (xs : List ℕ). get_or xs i 0) E.args
      ∙ get_d_map packed_args W i blank 0 (omega (arith, E.size))

  pub entries-in : packed_in hs us n ≡ W
  unfolding packed_in
  entries-in =
      tabulated (nth_packed hs us) 0 n blank W E.size
      (λ i l. ap (nth_packed hs us) (zero-add i) ∙ ap₂ packed_transition (head-nth i l) (args-nth i l)
      ∙ packed-back (nth i) (fits-nth i l))

  pub entries-packed : Room hs us → n ≤ length hs → HoldsPacked hs us n
  entries-packed R few = record {
    room = R;
    few = few;
    each = λ i l. subst (λ (x : ℕ). Packs x (get_or us i 0)) (sym (head-nth i l))
        (subst (Packs (head_of (nth i))) (sym (args-nth i l)) (packs (nth i) (fits-nth i l)));
  }

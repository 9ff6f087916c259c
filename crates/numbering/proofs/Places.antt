-- Packed arguments and their eight places, and the order of packed transitions.
use mathlib.Core.Bool.{Bool, false, true}
use mathlib.Core.List.{List, ◌∷◌, map}
use mathlib.Core.Path.{◌∙◌, ◌≡◌, ap, ap₂, refl, sym}
use Prim.Native.Nat.{◌%◌, ◌*◌, ◌+◌, ◌-◌, ◌/◌, ◌<◌, ◌^◌, ◌≤◌, suc, zero, ℕ}
use native.Mathlib.Omega.{arith}
use lib.Dec.{eqb, ltb}
use lib.Pow.{shr-shr}
use borrow.Author.Tests.{eqb-false, eqb-true}
use Rattle.automata.specs.Order.{lex, precedes}
use Rattle.format.specs.Format.{byte_values, max_arity}
use Rattle.lists.specs.Positions.{up_from}
use Rattle.packed.specs.Packed.{before, digits}
use Rattle.packed.specs.Heads.{Packs, head_arity, head_label, head_meta, packed_transition, place_of}
use Rattle.fields.proofs.Searching.{lex-agrees, lex-differs}
use Rattle.lists.proofs.Intervals.{length-tabulated}
use Rattle.packed.proofs.Digits.{digits-lex}
use Rattle.packed.proofs.Heads.{digits_last}
use Rattle.packed.proofs.Order.{higher-decides, lower-decides}

-- a number of 64 bits is made of its eight places as digits
pub digits-place : (a : ℕ) → a < 2 ^ 64 → digits (place_of a) 0 max_arity 0 ≡ a
digits-place a h = go 8 (omega arith) ∙ omega arith
  where
    go : (n : ℕ) → n ≤ 8 → digits (place_of a) 0 n 0 ≡ a / 2 ^ (8 * (8 - n))
    go zero l = omega arith
    go (suc n) l =
        let e : 8 * (7 - n) + 8 ≡ 8 * (8 - n) = omega arith in
        let d : 8 * (7 - n) ≡ 8 * (8 - suc n) = omega arith in
        let before = go n (omega arith) in
        let shifted = shr-shr a (8 * (7 - n)) 8 ∙ ap (λ j. a / 2 ^ j) e in
        digits_last (place_of a) n
        ∙ ap (λ x. byte_values * x + place_of a n) (before ∙ sym shifted)
        ∙ digit (a / 2 ^ (8 * (7 - n)))
        ∙ ap (λ j. a / 2 ^ j) d
      where
        digit : (b : ℕ) → byte_values * (b / 2 ^ 8) + b % byte_values ≡ b
        digit b = omega arith

place-small : (a k : ℕ) → place_of a k < byte_values
place-small a k = below (a / 2 ^ (8 * (7 - k)))
  where
    below : (x : ℕ) → x % byte_values < byte_values
    below x = omega arith

module _ {h a g b : ℕ} (p : Packs h a) (q : Packs g b) (l : a < 2 ^ 64) (r : b < 2 ^ 64) where
  abbrev n : ℕ
  n = head_arity h

  abbrev m : ℕ
  m = head_arity g

  abbrev xs : List ℕ
  xs = map (place_of a) (up_from 0 n)

  abbrev ys : List ℕ
  ys = map (place_of b) (up_from 0 m)

  args-order : n ≡ m → lex xs ys ≡ ltb a b
  args-order e =
      ap (λ j. lex xs (map (place_of b) (up_from 0 j))) (sym e)
      ∙ digits-lex (place_of a) (place_of b) (place-small a) (place-small b) n max_arity 0 0 p.narrow
      (λ k i j. p.rest k (omega arith) (omega arith) ∙ sym (q.rest k (omega arith) (omega arith)))
      ∙ ap₂ ltb (digits-place a l) (digits-place b r)

  by-label : n ≡ m → (c : Bool) → eqb (head_label h) (head_label g) ≡ c →
      lex (head_label h ∷ xs) (head_label g ∷ ys) ≡ before (head_meta h) a (head_meta g) b
  by-label e true d =
      let s = eqb-true (head_label h) (head_label g) d in
      lex-agrees (head_label h) (head_label g) xs ys s ∙ args-order e
      ∙ lower-decides (head_meta h) (head_meta g) a b (omega arith)
  by-label e false d =
      let s = eqb-false (head_label h) (head_label g) d in
      lex-differs (head_label h) (head_label g) xs ys s
      ∙ higher-decides (head_label h) (head_label g) (head_meta h) (head_meta g) a b s (λ u. omega arith)
      (λ u. omega arith)

  by-arity : (c : Bool) → eqb n m ≡ c →
      lex (n ∷ head_label h ∷ xs) (m ∷ head_label g ∷ ys) ≡ before (head_meta h) a (head_meta g) b
  by-arity true d =
      let e = eqb-true n m d in
      lex-agrees n m (head_label h ∷ xs) (head_label g ∷ ys) e ∙ by-label e (eqb (head_label h) (head_label g)) refl
  by-arity false d =
      let e = eqb-false n m d in
      lex-differs n m (head_label h ∷ xs) (head_label g ∷ ys) e
      ∙ higher-decides n m (head_meta h) (head_meta g) a b e (λ u. omega arith) (λ u. omega arith)

  -- the order of transitions is that of their numbers without the output
  pub precedes-heads : precedes (packed_transition h a) (packed_transition g b) ≡ before (head_meta h) a (head_meta g) b
  precedes-heads =
      ap₂ (λ i j. lex (i ∷ head_label h ∷ xs) (j ∷ head_label g ∷ ys)) (length-tabulated (place_of a) 0 n)
      (length-tabulated (place_of b) 0 m)
      ∙ by-arity (eqb n m) refl

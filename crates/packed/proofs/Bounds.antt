-- Bytes below bounds: the classes of a table, and zeros.
use mathlib.Core.Bool.{Bool, false, true}
use mathlib.Core.List.{List}
use mathlib.Core.Path.{◌∙◌, ◌≡◌, ap, refl, sym}
use Prim.Native.Nat.{◌+◌, ◌-◌, ◌<◌, ◌≤◌, suc, zero, ℕ}
use native.Mathlib.Omega.{arith}
use lib.Dec.{eqb, leb}
use lib.ListN.{get_or}
use borrow.Author.Tests.{le-leb, leb-false, leb-true, lt-leb, ne_eqb}
use Rattle.packed.specs.Places.{at_most}
use Rattle.format.specs.Format.{count_at, max_states}
use Rattle.lists.specs.Positions.{up_from}
use Rattle.lists.specs.Tests.{every}
use Rattle.table.specs.Layout.{class_fits, state_count, zero_at}
use Rattle.lists.proofs.Intervals.{at_every, every-at}

-- a byte that is at most 0 is 0
at-most-zero : (x : ℕ) → leb x 0 ≡ eqb x 0
at-most-zero zero = refl
at-most-zero (suc x) = lt-leb (suc x) 0 (omega arith) ∙ sym (ne_eqb (suc x) 0 (λ e. omega arith))

pub zeros-at-most : (s : List ℕ) (xs : List ℕ) → every (at_most s 0) xs ≡ every (zero_at s) xs
zeros-at-most s xs = ap (λ (p : ℕ → Bool). every p xs) (λ i j. at-most-zero (get_or s j 0) i)

module _ (b : List ℕ) (few : state_count b ≤ max_states) where
  -- the class of a state, and of a number beyond
  within : (q : ℕ) → q ≤ state_count b → class_fits b q ≡ at_most b 1 q
  within q h = rw (le-leb q (state_count b) h)

  beyond : (q : ℕ) → state_count b < q → class_fits b q ≡ at_most b 0 q
  beyond q h = rw (lt-leb q (state_count b) h, at-most-zero (get_or b q 0))

  abbrev n : ℕ
  n = state_count b

  -- the class of some state does not fit
  pub class-broken : {r : Bool} → r ≡ every (at_most b 1) (up_from 1 (n + 1 - 1)) → r ≡ false →
      false ≡ every (class_fits b) (up_from 1 max_states)
  class-broken {r} e h = go (every (class_fits b) (up_from 1 max_states)) refl
    where
      go : (x : Bool) → every (class_fits b) (up_from 1 max_states) ≡ x → false ≡ x
      go false d = refl
      go true d = sym h ∙ e ∙ at_every (at_most b 1) 1 (n + 1 - 1) (λ q a l. sym (within q (omega arith))
          ∙ every-at (class_fits b) 1 max_states d q a (omega arith))

  -- the classes of the states fit, so the bytes after them decide
  pub classes-decide : {r x : Bool} → r ≡ every (at_most b 1) (up_from 1 (n + 1 - 1)) → r ≡ true →
      x ≡ every (at_most b 0) (up_from (n + 1) (count_at - (n + 1))) → x ≡ every (class_fits b) (up_from 1 max_states)
  classes-decide {r} {x} e h d = go x refl (every (class_fits b) (up_from 1 max_states)) refl
    where
      fits : x ≡ true → every (class_fits b) (up_from 1 max_states) ≡ true
      fits f = at_every (class_fits b) 1 max_states (λ q a l. one q a l (leb q n) refl)
        where
          one : (q : ℕ) → 1 ≤ q → q < 1 + max_states → (c : Bool) → leb q n ≡ c → class_fits b q ≡ true
          one q a l true c = within q (leb-true q n c) ∙ every-at (at_most b 1) 1 (n + 1 - 1) (sym e ∙ h) q a
              (omega (arith, leb-true q n c))
          one q a l false c = let m = leb-false q n c in
              beyond q m ∙ every-at (at_most b 0) (n + 1) (count_at - (n + 1)) (sym d ∙ f) q (omega arith) (omega arith)

      zeros : every (class_fits b) (up_from 1 max_states) ≡ true → x ≡ true
      zeros f = d ∙ at_every (at_most b 0) (n + 1) (count_at - (n + 1)) (λ q a l. sym (beyond q (omega arith))
          ∙ every-at (class_fits b) 1 max_states f q (omega arith) (omega arith))

      go : (u : Bool) → x ≡ u → (v : Bool) → every (class_fits b) (up_from 1 max_states) ≡ v → u ≡ v
      go true p v q = sym (fits p) ∙ q
      go false p true q = sym p ∙ zeros q
      go false p false q = refl

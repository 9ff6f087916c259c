-- How many numbers of an interval pass a test, one after another; and small tests that code makes.
use mathlib.Core.Bool.{Bool, false, not, true}
use mathlib.Core.List.{List, ◌∷◌}
use mathlib.Core.Path.{◌≡◌, ap, refl}
use Prim.Native.Nat.{◌+◌, ◌-◌, ◌<◌, ◌≤◌, suc, zero, ℕ}
use native.Mathlib.Omega.{arith}
use lib.Dec.{eqb}
use borrow.Author.Tests.{ne_eqb}
use lib.ListN.{length}
use Rattle.lists.specs.Positions.{up_from}
use Rattle.lists.specs.Tests.{bit, filter}
use Rattle.marking.specs.Marks.{nonzero}
use Rattle.lists.proofs.Loops.{up_from-next, up_from-whole}
use Rattle.lists.proofs.Positions.{up_from-length}
use Rattle.lists.proofs.Tests.{filter-length}

pub unequal-nonzero : (x : ℕ) → not (eqb x 0) ≡ nonzero x
unequal-nonzero zero = refl
unequal-nonzero (suc x) = rw (ne_eqb (suc x) 0 (λ e. omega arith))

-- sum numbers before i pass, of all that pass
pub record TallyFrom (p : ℕ → Bool) (all n sum i : ℕ) : Type 0 where
  pub within : i ≤ n
  pub left : sum + length (filter p (up_from i (n - i))) ≡ all

module _ {p : ℕ → Bool} {n : ℕ} where
  pub tally-start : {k : ℕ} (m : ℕ) → k + m ≡ n → TallyFrom p (length (filter p (up_from k m))) n 0 k
  tally-start {k} m e = record {
    within = omega arith;
    left = omega (arith, ap (λ (l : List ℕ). length (filter p l)) (up_from-whole k m n e));
  }

  pub tally-next : {all sum i r : ℕ} {b : Bool} → TallyFrom p all n sum i → i < n → b ≡ p i → r ≡ sum + bit b →
      TallyFrom p all n r (i + 1)
  tally-next {all} {sum} {i} {r} {b} T h e f = record {
    within = omega arith;
    left = omega (arith, f, ap bit e, T.left, next (p i) refl);
  }
    where
      next : (c : Bool) → p i ≡ c →
          length (filter p (up_from i (n - i))) ≡ bit c + length (filter p (up_from (i + 1) (n - (i + 1))))
      next true d =
          let g : length (filter p (i ∷ up_from (i + 1) (n - (i + 1)))) ≡
          suc (length (filter p (up_from (i + 1) (n - (i + 1))))) = rw d in
          omega (arith, g, ap (λ (l : List ℕ). length (filter p l)) (up_from-next i n h))
      next false d =
          let g : length (filter p (i ∷ up_from (i + 1) (n - (i + 1)))) ≡
          length (filter p (up_from (i + 1) (n - (i + 1)))) = rw d in
          omega (arith, g, ap (λ (l : List ℕ). length (filter p l)) (up_from-next i n h))

pub tally-few : (p : ℕ → Bool) (k m : ℕ) → length (filter p (up_from k m)) ≤ m
tally-few p k m = omega (arith, filter-length p (up_from k m), up_from-length k m)

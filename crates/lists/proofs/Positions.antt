-- Laws of positions, intervals and pairs.
use mathlib.Core.List.{[]}
use mathlib.Core.Bool.{Bool, false, true}
use mathlib.Core.List.{List, ◌∷◌}
use mathlib.Core.Logic.{inl, inr}
use mathlib.Core.Path.{◌∙◌, ◌≡◌, ap, refl, subst, sym}
use Prim.Native.Nat.{◌+◌, ◌<◌, ◌≤◌, suc, zero, ℕ}
use native.Mathlib.Omega.{arith}
use lib.Dec.{eqb}
use lib.ListN.{get_or, length}
use borrow.Author.Tests.{eqb-false, eqb-true}
use Rattle.lists.specs.Positions.{Pair, eq_pair, grid, position, row, shift, up_from}
use Rattle.lists.specs.Tests.{◌∈◌}
use Rattle.lists.proofs.FirstPlace.{first-at, first-in, first-length, first-none, first_some}
use Rattle.lists.proofs.Tests.{and_both, and_left, and_right, eqb_same, in_append_left, in_append_right}

pub shift-pos : (n : ℕ) → 1 ≤ n → 1 ≤ shift n
shift-pos zero h = omega arith
shift-pos (suc n) h = omega arith

module _ {K : Type 0} (eq : K → K → Bool) (eq-true : (j k : K) → eq j k ≡ true → j ≡ k)
    (eq-same : (k : K) → eq k k ≡ true) where
  pub position-none : (R : List K) (k : K) → (k ∈ R → ⊥) → position eq R k ≡ 0
  position-none R k h = first-none (eq k) R (λ x i. other x i (eq k x) refl)
    where
      other : (x : K) → x ∈ R → (b : Bool) → eq k x ≡ b → b ≡ false
      other x i true t = absurd (h (subst (λ (y : K). y ∈ R) (sym (eq-true k x t)) i))
      other x i false t = refl

  -- a number from 1 is the place of the key
  pub position_at : (R : List K) (k d : K) (i : ℕ) → position eq R k ≡ suc i →
      (i < length R) × (get_or R i d ≡ k)
  position_at R k d i e =
      let F = first-at (eq k) R d i e in (F.within, sym (eq-true k (get_or R i d) F.passes))

  pub position_in : (R : List K) (k : K) → 1 ≤ position eq R k → k ∈ R
  position_in R k h =
      let (x, i, t) = first-in (eq k) R h in subst (λ (y : K). y ∈ R) (sym (eq-true k x t)) i

  pub position-pos : (R : List K) (k : K) → k ∈ R → 1 ≤ position eq R k
  position-pos R k i = first_some (eq k) R k i (eq-same k)

  pub position-inj : (R : List K) (j k : K) → j ∈ R → position eq R j ≡ position eq R k → j ≡ k
  position-inj R j k i e = go (position eq R j) refl (position-pos R j i)
    where
      go : (n : ℕ) → position eq R j ≡ n → 1 ≤ n → j ≡ k
      go zero u h = absurd (omega arith)
      go (suc n) u h = sym (position_at R j j n u).1 ∙ (position_at R k j n (sym e ∙ u)).1

  pub position-length : (R : List K) (k : K) → position eq R k ≤ length R
  position-length R k = first-length (eq k) R

pub in-up_from : (k n q : ℕ) → k ≤ q → q < k + n → q ∈ up_from k n
in-up_from k zero q h l = absurd (omega arith)
in-up_from k (suc n) q h l = go (λ m. in-up_from (suc k) n q m (omega arith)) (eqb q k) refl
  where
    go : (suc k ≤ q → q ∈ up_from (suc k) n) → (b : Bool) → eqb q k ≡ b → q ∈ up_from k (suc n)
    go ih true e = inl (eqb-true q k e)
    go ih false e = let ne = eqb-false q k e in inr (ih (omega arith))

pub up_from-in : (k n q : ℕ) → q ∈ up_from k n → (k ≤ q) × (q < k + n)
up_from-in k zero q x' = elim x' [ ]
up_from-in k (suc n) q (inl e) = omega arith
up_from-in k (suc n) q (inr m) = let r = up_from-in (suc k) n q m in omega arith

pub up_from-length : (k n : ℕ) → length (up_from k n) ≡ n
up_from-length k zero = refl
up_from-length k (suc n) = ap suc (up_from-length (suc k) n)

pub eq_pair-true : (j k : Pair) → eq_pair j k ≡ true → j ≡ k
eq_pair-true j k e = let p = eqb-true j.0 k.0 (and_left _ _ e) in let q =
    eqb-true j.1 k.1 (and_right (eqb j.0 k.0) _ e) in λ i. (p i, q i)

pub eq_pair-same : (k : Pair) → eq_pair k k ≡ true
eq_pair-same k = and_both (eqb_same k.0) (eqb_same k.1)

in_row : (p : ℕ) (qs : List ℕ) (q : ℕ) → q ∈ qs → ◌∈◌ {A = Pair} (p, q) (row p qs)
in_row p [] q x' = elim x' [ ]
in_row p (x ∷ qs) q (inl e) = inl (λ i. (p, e i))
in_row p (x ∷ qs) q (inr m) = inr (in_row p qs q m)

pub in-grid : (ps qs : List ℕ) (p q : ℕ) → p ∈ ps → q ∈ qs → ◌∈◌ {A = Pair} (p, q) (grid ps qs)
in-grid [] qs p q x'' m = elim x'' [ ]
in-grid (x ∷ ps) qs p q (inl e) m =
    in_append_left (row x qs) (grid ps qs) (p, q) (rw (← e) (in_row p qs q m))
in-grid (x ∷ ps) qs p q (inr i) m = in_append_right (row x qs) (grid ps qs) (p, q) (in-grid ps qs p q i m)

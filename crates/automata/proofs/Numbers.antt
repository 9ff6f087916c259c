-- Positions in a numbering.
use mathlib.Core.Bool.{Bool, ◌||◌, cond, false, false≢true, true, true≢false}
use mathlib.Core.List.{List, [], ◌∷◌}
use mathlib.Core.Path.{◌∙◌, ◌≡◌, ap, refl, sym}
use Prim.Native.Nat.{◌<◌, ◌≤◌, suc, zero, ℕ}
use native.Mathlib.Omega.{arith}
use lib.Dec.{eqb}
use lib.ListN.{get_or, length, take}
use borrow.Author.Tests.{eq-eqb, eqb-true}
use Rattle.automata.specs.Renumber.{number_of}
use Rattle.lists.specs.Closure.{elem}
use Rattle.lists.specs.Positions.{shift}
use Rattle.lists.proofs.Positions.{shift-pos}

shift_le : (k m : ℕ) → k ≤ m → shift k ≤ suc m
shift_le zero m h = omega arith
shift_le (suc k) m h = omega arith

shift_back : (k m : ℕ) → 1 ≤ shift k → shift k ≤ suc m → (1 ≤ k) × (k ≤ m)
shift_back zero m h l = omega arith
shift_back (suc k) m h l = omega arith

-- what is among the first k has the same number there, at most k
pub number-prefix : (k : ℕ) (o : List ℕ) (q : ℕ) → elem eqb q (take k o) ≡ true →
    number_of (take k o) q ≡ number_of o q
number-prefix zero o q e = absurd (false≢true e)
number-prefix (suc k) [] q e = refl
number-prefix (suc k) (x ∷ o) q e = go (number-prefix k o q) (eqb q x) e
  where
    go : (elem eqb q (take k o) ≡ true → number_of (take k o) q ≡ number_of o q) → (b : Bool) →
        (b || elem eqb q (take k o)) ≡ true →
        cond b 1 (shift (number_of (take k o) q)) ≡ cond b 1 (shift (number_of o q))
    go ih true e = refl
    go ih false e = ap shift (ih e)

pub number-le : (k : ℕ) (o : List ℕ) (q : ℕ) → elem eqb q (take k o) ≡ true → number_of o q ≤ k
number-le zero o q e = absurd (false≢true e)
number-le (suc k) [] q e = absurd (false≢true e)
number-le (suc k) (x ∷ o) q e = go (number-le k o q) (eqb q x) e
  where
    go : (elem eqb q (take k o) ≡ true → number_of o q ≤ k) → (b : Bool) →
        (b || elem eqb q (take k o)) ≡ true → cond b 1 (shift (number_of o q)) ≤ suc k
    go ih true e = omega arith
    go ih false e = shift_le (number_of o q) k (ih e)

pub le-number : (k : ℕ) (o : List ℕ) (q : ℕ) → 1 ≤ number_of o q → number_of o q ≤ k →
    elem eqb q (take k o) ≡ true
le-number zero o q h l = absurd (omega arith)
le-number (suc k) [] q h l = absurd (omega arith)
le-number (suc k) (x ∷ o) q h l = go (le-number k o q) (eqb q x) h l
  where
    go : (1 ≤ number_of o q → number_of o q ≤ k → elem eqb q (take k o) ≡ true) → (b : Bool) →
        1 ≤ cond b 1 (shift (number_of o q)) → cond b 1 (shift (number_of o q)) ≤ suc k →
        (b || elem eqb q (take k o)) ≡ true
    go ih true h l = refl
    go ih false h l = let r = shift_back (number_of o q) k h l in ih r.0 r.1

pub number-pos : (o : List ℕ) (q : ℕ) → elem eqb q o ≡ true → 1 ≤ number_of o q
number-pos [] q e = absurd (false≢true e)
number-pos (x ∷ o) q e = go (number-pos o q) (eqb q x) e
  where
    go : (elem eqb q o ≡ true → 1 ≤ number_of o q) → (b : Bool) → (b || elem eqb q o) ≡ true →
        1 ≤ cond b 1 (shift (number_of o q))
    go ih true e = omega arith
    go ih false e = shift-pos (number_of o q) (ih e)

pub number-length : (o : List ℕ) (q : ℕ) → number_of o q ≤ length o
number-length [] q = omega arith
number-length (x ∷ o) q = go (number-length o q) (eqb q x)
  where
    go : number_of o q ≤ length o → (b : Bool) → cond b 1 (shift (number_of o q)) ≤ suc (length o)
    go ih true = omega arith
    go ih false = shift_le (number_of o q) (length o) ih

-- the element at place k + 1, if it does not stand earlier
pub number_at : (k : ℕ) (o : List ℕ) → k < length o → elem eqb (get_or o k 0) (take k o) ≡ false →
    number_of o (get_or o k 0) ≡ suc k
number_at k [] h e = absurd (omega arith)
number_at zero (x ∷ o) h e = rw (eq-eqb x x refl)
number_at (suc k) (x ∷ o) h e = go (number_at k o (omega arith)) (eqb (get_or o k 0) x) e
  where
    go : (elem eqb (get_or o k 0) (take k o) ≡ false → number_of o (get_or o k 0) ≡ suc k) → (b : Bool) →
        (b || elem eqb (get_or o k 0) (take k o)) ≡ false →
        cond b 1 (shift (number_of o (get_or o k 0))) ≡ suc (suc k)
    go ih true e = absurd (true≢false e)
    go ih false e = ap shift (ih e)

pub get_d-number : (o : List ℕ) (q k : ℕ) → number_of o q ≡ suc k → get_or o k 0 ≡ q
get_d-number [] q k e = absurd (omega arith)
get_d-number (x ∷ o) q k e = go (number_of o q) refl (get_d-number o q) (eqb q x) refl k e
  where
    go : (n : ℕ) → number_of o q ≡ n → ((k : ℕ) → number_of o q ≡ suc k → get_or o k 0 ≡ q) → (b : Bool) →
        eqb q x ≡ b → (k : ℕ) → cond b 1 (shift n) ≡ suc k → get_or (x ∷ o) k 0 ≡ q
    go n u ih true t zero e = sym (eqb-true q x t)
    go n u ih true t (suc k) e = absurd (omega arith)
    go zero u ih false t k e = absurd (omega arith)
    go (suc n) u ih false t zero e = absurd (omega arith)
    go (suc n) u ih false t (suc k) e = ih k (omega arith)

pub number-inj : (o : List ℕ) (p q : ℕ) → elem eqb p o ≡ true → number_of o p ≡ number_of o q → p ≡ q
number-inj o p q m e = go (number_of o p) refl (number-pos o p m)
  where
    go : (n : ℕ) → number_of o p ≡ n → 1 ≤ n → p ≡ q
    go zero u h = absurd (omega arith)
    go (suc k) u h = sym (get_d-number o p k u) ∙ get_d-number o q k (sym e ∙ u)

-- The first bytes in which a line and a text agree. If the line is to be the text, the byte after them is the first bad
-- one.
use Rattle.std.proofs.Common.{◌≡◌, ℕ, zero, suc, ◌-◌, ◌≤◌, Bool, true, false, cond, eqb, ◌⊎◌, List, [], ◌∷◌, ◌++◌, length, take, drop, refl, subst, inl, inr, arith, take-append-drop, eqb-true}
use Rattle.text.specs.Grammar.{FirstBad}
use Rattle.text.specs.Reader.{agreed}
use Rattle.lists.proofs.Tests.{eqb_same, test}

pub agreed-within : (s w : List ℕ) → (agreed s w ≤ length s) × (agreed s w ≤ length w)
unfolding agreed
agreed-within [] w = (omega arith, omega arith)
agreed-within (b ∷ s) [] = (omega arith, omega arith)
agreed-within (b ∷ s) (v ∷ w) = go (agreed-within s w) (eqb b v)
  where
    go : (agreed s w ≤ length s) × (agreed s w ≤ length w) → (t : Bool) →
        (cond t (suc (agreed s w)) 0 ≤ suc (length s)) × (cond t (suc (agreed s w)) 0 ≤ suc (length w))
    go x true = (omega arith, omega arith)
    go x false = (omega arith, omega arith)

pub agreed-whole : (s w : List ℕ) → length w ≤ agreed s w → s ≡ w ++ drop (length w) s
unfolding agreed
agreed-whole [] [] h = refl
agreed-whole [] (v ∷ w) h = absurd (omega arith)
agreed-whole (b ∷ s) [] h = refl
agreed-whole (b ∷ s) (v ∷ w) h = go (λ k. agreed-whole s w k) (test (eqb b v))
  where
    go : (length w ≤ agreed s w → s ≡ w ++ drop (length w) s) → (eqb b v ≡ true) ⊎ (eqb b v ≡ false) →
        b ∷ s ≡ v ∷ (w ++ drop (length w) s)
    go ih (inl e) =
        let k = rw e at h in
        let d = eqb-true b v e in
        let q = ih (omega arith) in
        λ i. d i ∷ q i
    go ih (inr e) = let k = rw e at h in absurd (omega arith)

-- both start with the bytes in which they agree
agreed-take : (s w : List ℕ) → take (agreed s w) s ≡ take (agreed s w) w
unfolding agreed
agreed-take [] w = refl
agreed-take (b ∷ s) [] = refl
agreed-take (b ∷ s) (v ∷ w) = go (agreed-take s w) (test (eqb b v))
  where
    go : take (agreed s w) s ≡ take (agreed s w) w → (eqb b v ≡ true) ⊎ (eqb b v ≡ false) →
        take (cond (eqb b v) (suc (agreed s w)) 0) (b ∷ s) ≡ take (cond (eqb b v) (suc (agreed s w)) 0) (v ∷ w)
    go ih (inl e) = let d = eqb-true b v e in rw e (λ i. d i ∷ ih i)
    go ih (inr e) = rw e

-- a start that both have is agreed
start-agreed : (s r : List ℕ) (k : ℕ) → k ≤ length s → k ≤ agreed s (take k s ++ r)
unfolding agreed
start-agreed [] r k h = omega arith
start-agreed (b ∷ s) r zero h = omega arith
start-agreed (b ∷ s) r (suc k) h = rw (eqb_same b) (omega (arith, start-agreed s r k (omega arith)))

-- a line that is to be the text w and is not
pub agreed-bad : (s w : List ℕ) → (s ≡ w → ⊥) → FirstBad (λ x. x ≡ w) s (suc (agreed s w))
agreed-bad s w n =
    let k = agreed s w in
    let e : suc k - 1 ≡ k = omega arith in
    record {
      within = (omega arith, omega (arith, (agreed-within s w).0));
      before = record { rest = drop k w; line = rw (e, agreed-take s w) (take-append-drop k w) };
      there = λ h g.
          let p : suc k ≤ agreed s w = subst (λ x. suc k ≤ agreed s x) g.line (start-agreed s g.rest (suc k) h) in
          omega arith;
      malformed = n;
    }

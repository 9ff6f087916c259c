-- Transitions by their place in the table: one that stands before another has its trees numbered before, and
-- transitions of one place have one label and the same arguments.
use mathlib.Core.Bool.{Bool, cond, false, true}
use mathlib.Core.List.{List, [], ◌∷◌}
use mathlib.Core.Path.{◌∙◌, ◌≡◌, refl, sym}
use Prim.Native.Nat.{◌+◌, ◌<◌, ◌≤◌, suc, zero, ℕ}
use native.Mathlib.Omega.{arith}
use borrow.Author.Tests.{eq-eqb}
use Rattle.automata.specs.Automaton.{Transition, lookup, matches}
use Rattle.automata.specs.Ranks.{sum_before}
use Rattle.automata.specs.Totals.{product_over}
use Rattle.lists.specs.Positions.{first_place, shift}
use Rattle.automata.proofs.RankChoices.{trees_at}
use Rattle.automata.proofs.Steps.{matches-true}
use Rattle.lists.proofs.Positions.{shift-pos}

shift-less : (m n : ℕ) → shift m < shift n → m < n
shift-less zero zero h = absurd (omega arith)
shift-less zero (suc n) h = omega arith
shift-less (suc m) zero h = absurd (omega arith)
shift-less (suc m) (suc n) h = omega arith

shift_same : (m n : ℕ) → shift m ≡ shift n → m ≡ n
shift_same zero zero e = refl
shift_same zero (suc n) e = absurd (omega arith)
shift_same (suc m) zero e = absurd (omega arith)
shift_same (suc m) (suc n) e = omega arith

shift-many : (n : ℕ) → shift n ≡ 1 → ⊥
shift-many zero e = omega arith
shift-many (suc n) e = omega arith

-- what is found has a place
pub lookup-place : (a : ℕ) (qs : List ℕ) (τs : List Transition) → 1 ≤ lookup a qs τs →
    1 ≤ first_place (matches a qs) τs
lookup-place a qs [] h = absurd (omega arith)
lookup-place a qs (τ ∷ τs) h = go (lookup-place a qs τs) (matches a qs τ) h
  where
    go : (1 ≤ lookup a qs τs → 1 ≤ first_place (matches a qs) τs) → (m : Bool) →
        1 ≤ cond m τ.out (lookup a qs τs) → 1 ≤ cond m 1 (shift (first_place (matches a qs) τs))
    go ih true l = omega arith
    go ih false l = shift-pos (first_place (matches a qs) τs) (ih l)

module _ (a b : ℕ) (qs ps : List ℕ) where
  pub place_same : (τs : List Transition) → 1 ≤ first_place (matches a qs) τs →
      first_place (matches a qs) τs ≡ first_place (matches b ps) τs → (a ≡ b) × (qs ≡ ps)
  place_same [] h e = absurd (omega arith)
  place_same (τ ∷ τs) h e = go (place_same τs) (matches a qs τ) (matches b ps τ) refl refl h e
    where
      some : (n : ℕ) → 1 ≤ shift n → 1 ≤ n
      some zero l = absurd (omega arith)
      some (suc n) l = omega arith

      go : (1 ≤ first_place (matches a qs) τs → first_place (matches a qs) τs ≡ first_place (matches b ps) τs →
          (a ≡ b) × (qs ≡ ps)) → (m n : Bool) → matches a qs τ ≡ m → matches b ps τ ≡ n →
          1 ≤ cond m 1 (shift (first_place (matches a qs) τs)) →
          cond m 1 (shift (first_place (matches a qs) τs)) ≡ cond n 1 (shift (first_place (matches b ps) τs)) →
          (a ≡ b) × (qs ≡ ps)
      go ih true true c d l s =
          let (x, y) = matches-true a qs τ c in
          let (u, v) = matches-true b ps τ d in (sym x ∙ u, sym y ∙ v)
      go ih true false c d l s = absurd (shift-many (first_place (matches b ps) τs) (sym s))
      go ih false true c d l s = absurd (shift-many (first_place (matches a qs) τs) s)
      go ih false false c d l s =
          ih (some (first_place (matches a qs) τs) l)
          (shift_same (first_place (matches a qs) τs) (first_place (matches b ps) τs) s)

  -- the trees at a transition into q come before those at a later one
  module _ (w : ℕ → ℕ) (q : ℕ) (some : 1 ≤ q) where
    pub place-before : (τs : List Transition) → lookup a qs τs ≡ q →
        first_place (matches a qs) τs < first_place (matches b ps) τs →
        sum_before w q a qs τs + product_over w qs ≤ sum_before w q b ps τs
    place-before [] o h = absurd (omega arith)
    place-before (τ ∷ τs) o h = go (place-before τs) (matches a qs τ) (matches b ps τ) refl o h
      where
        go : (lookup a qs τs ≡ q → first_place (matches a qs) τs < first_place (matches b ps) τs →
            sum_before w q a qs τs + product_over w qs ≤ sum_before w q b ps τs) → (m n : Bool) → matches a qs τ ≡ m →
            cond m τ.out (lookup a qs τs) ≡ q →
            cond m 1 (shift (first_place (matches a qs) τs)) < cond n 1 (shift (first_place (matches b ps) τs)) →
            cond m 0 (trees_at w q τ + sum_before w q a qs τs) + product_over w qs
            ≤ cond n 0 (trees_at w q τ + sum_before w q b ps τs)
        go ih true true c o l = absurd (omega arith)
        go ih true false c o l =
            let (x, y) = matches-true a qs τ c in
            let t : trees_at w q τ ≡ product_over w qs = rw (eq-eqb τ.out q o, y) in omega arith
        go ih false true c o l =
            absurd (omega (
              arith,
              shift-pos (first_place (matches a qs) τs) (lookup-place a qs τs (omega arith)),
            ))
        go ih false false c o l =
            omega (
              arith,
              ih o (shift-less (first_place (matches a qs) τs) (first_place (matches b ps) τs) l),
            )

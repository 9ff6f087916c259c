-- SERIAL: the number of an accepted tree is below the total, and number and tree find each other (02, order 4).
use mathlib.Core.Bool.{true}
use mathlib.Core.Path.{◌∙◌, ◌≡◌, ap, refl}
use Prim.Native.Nat.{◌+◌, ◌-◌, ◌<◌, ℕ}
use native.Mathlib.Omega.{arith}
use Rattle.automata.specs.Acyclic.{acyclic}
use Rattle.automata.specs.Automaton.{Automaton, accepting, accepts, run, states}
use Rattle.automata.specs.Order.{rising}
use Rattle.automata.specs.Ranks.{Chosen, rank, rank_in, tree_of, unrank}
use Rattle.automata.specs.Totals.{FinitelyMany, total, trees_of}
use Rattle.automata.specs.Valid.{states_in_range}
use Rattle.trees.specs.Tree.{Tree}
use Rattle.automata.proofs.RankChoices.{state-at, state-within}
use Rattle.automata.proofs.RankFinite.{FiniteTree, finite-accepted}
use Rattle.automata.proofs.RankTrees.{rank_in-less, tree_of-rank}
use Rattle.automata.proofs.Totals.{accepting-some, total-counted}
use Rattle.automata.proofs.TotalsFinite.{acyclic-many, depth-states}
use Rattle.lists.proofs.Numberings.{number-onto}

-- every accepting state has finitely many trees
module _ (A : Automaton) (ranged : states_in_range A ≡ true) (rises : rising A.transitions ≡ true)
    (many : (q : ℕ) → accepting A q ≡ true → FinitelyMany A q) where
  -- 02, order 4: 0 to the total less one
  pub rank_less : (t : Tree) → accepts A t ≡ true → rank A t < total A
  unfolding rank total
  rank_less t e =
      let F : FiniteTree A t = finite-accepted A ranged many t e in
      let z : 1 + (run A t - 1) ≡ run A t = omega (arith, F.state.0) in
      omega (
        arith,
        rank_in-less A ranged rises t F,
        state-within A (trees_of A) (run A t - 1) 1 (states A) (omega (arith, F.state.0, F.state.1))
            (ap (accepting A) z ∙ e),
        ap (trees_of A) z,
      )

  -- 02, order 4: the number of a tree finds the tree
  pub unrank-rank : (t : Tree) → accepts A t ≡ true → unrank A (rank A t) ≡ t
  unfolding rank unrank
  unrank-rank t e =
      let F : FiniteTree A t = finite-accepted A ranged many t e in
      let z : 1 + (run A t - 1) ≡ run A t = omega (arith, F.state.0) in
      ap (λ (c : Chosen ℕ). tree_of A (trees_of A) (states A) c.what c.left)
      (state-at A (trees_of A) (run A t - 1) 1 (states A) (rank_in A (trees_of A) t)
      (omega (arith, F.state.0, F.state.1)) (ap (accepting A) z ∙ e)
      (omega (arith, rank_in-less A ranged rises t F, ap (trees_of A) z)))
      ∙ ap (λ (p : ℕ). tree_of A (trees_of A) (states A) p (rank_in A (trees_of A) t)) z
      ∙ tree_of-rank A ranged rises t (states A) (depth-states A ranged (run A t) F.state.0 F.many t refl) F

  unrank-onto : (k : ℕ) → k < total A → (accepts A (unrank A k) ≡ true) × (rank A (unrank A k) ≡ k)
  unrank-onto =
      number-onto (λ t. accepts A t ≡ true) (total A) (total-counted A ranged rises many) (rank A) (unrank A) rank_less
      unrank-rank

  pub unrank-accepted : (k : ℕ) → k < total A → accepts A (unrank A k) ≡ true
  unrank-accepted k h = (unrank-onto k h).0

  -- 02, order 4: the tree of a number has the number
  pub rank-unrank : (k : ℕ) → k < total A → rank A (unrank A k) ≡ k
  rank-unrank k h = (unrank-onto k h).1

-- automata in which no state comes back
module _ (A : Automaton) (ranged : states_in_range A ≡ true) (rises : rising A.transitions ≡ true)
    (ac : acyclic A ≡ true) where
  pub accepting-many : (q : ℕ) → accepting A q ≡ true → FinitelyMany A q
  accepting-many q e = acyclic-many A ranged ac q (accepting-some A q e)

  pub acyclic-rank-less : (t : Tree) → accepts A t ≡ true → rank A t < total A
  acyclic-rank-less = rank_less A ranged rises accepting-many

  pub acyclic-unrank-rank : (t : Tree) → accepts A t ≡ true → unrank A (rank A t) ≡ t
  acyclic-unrank-rank = unrank-rank A ranged rises accepting-many

  pub acyclic-unrank-accepted : (k : ℕ) → k < total A → accepts A (unrank A k) ≡ true
  acyclic-unrank-accepted = unrank-accepted A ranged rises accepting-many

  pub acyclic-rank-unrank : (k : ℕ) → k < total A → rank A (unrank A k) ≡ k
  acyclic-rank-unrank = rank-unrank A ranged rises accepting-many

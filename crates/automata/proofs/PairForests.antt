-- Lists of trees and their pairs: which pairs they have, trees for given pairs, and that
-- lists of subtrees with the same pairs are equal.
use mathlib.Core.List.{List, [], ◌∷◌}
use mathlib.Core.Logic.{inl, inr}
use mathlib.Core.Path.{◌∙◌, ◌≡◌, ap, refl, subst, sym}
use Prim.Native.Nat.{◌≤◌, ℕ}
use native.Mathlib.Omega.{arith}
use Rattle.automata.specs.Automaton.{Automaton, Fits, run, runs}
use Rattle.automata.specs.Change.{subtree_automaton, subtree_number, subtrees}
use Rattle.automata.specs.ProductView.{AllIn, pairs_with}
use Rattle.lists.specs.Positions.{Pair}
use Rattle.lists.specs.Tests.{◌∈◌}
use Rattle.trees.specs.Tree.{Forest, Tree, cons, eq_tree, nil}
use Rattle.automata.proofs.Change.{subtrees-closed}
use Rattle.automata.proofs.PairRuns.{both}
use Rattle.automata.proofs.ProductLaws.{pairs-exact}
use Rattle.automata.proofs.StatePairs.{live-first, tree-pair}
use Rattle.automata.proofs.SubtreeNodes.{InTree}
use Rattle.automata.proofs.Subtrees.{run-subtree}
use Rattle.lists.proofs.Positions.{position-inj}
use Rattle.trees.proofs.Trees.{eq_tree-same, eq_tree-true}

module _ (A : Automaton) (t : Tree) where
  abbrev B : Automaton
  B = subtree_automaton (subtrees t)

  -- the pair of a tree as its two runs
  pub run-pair : (u : Tree) →
      ◌≡◌ {A = Pair} (run A u, run (subtree_automaton (subtrees t)) u) (run A u, subtree_number (subtrees t) u)
  run-pair u = let e = run-subtree (subtrees t) (subtrees-closed t) u in λ i. (run A u, e i)

  -- subtrees with the same pairs are the same
  pub pairs-inj : (f g : Forest) → InTree A t f →
      both A (subtree_automaton (subtrees t)) f ≡ both A (subtree_automaton (subtrees t)) g → f ≡ g
  pairs-inj nil nil h e = refl
  pairs-inj nil (cons v g) h e = let z : ◌≡◌ {A = ℕ} 0 1 = cc in absurd (omega arith)
  pairs-inj (cons u f) nil h e = let z : ◌≡◌ {A = ℕ} 0 1 = cc in absurd (omega arith)
  pairs-inj (cons u f) (cons v g) h e =
      let p : ◌≡◌ {A = Pair} (run A u, run B u) (run A v, run B v) = cc in
      let q : both A B f ≡ both A B g = cc in
      cc (
        position-inj eq_tree eq_tree-true eq_tree-same (subtrees t) u v h.0
            (ap (λ (k : Pair). k.1) (sym (run-pair u) ∙ p ∙ run-pair v)),
        pairs-inj f g h.1 q,
      )

  module _ (fit : Fits A) where
    -- trees for pairs
    pub pair-trees : (ks : List Pair) → AllIn (pairs_with A t) ks →
        (f : Forest) × (both A (subtree_automaton (subtrees t)) f ≡ ks)
    pair-trees [] h = (nil, refl)
    pair-trees (k ∷ ks) h =
        let (_, (u, e)) = (pairs-exact A fit t k).0 h.0 in
        let (f, d) = pair-trees ks h.1 in
        (cons u f, cc (run-pair u ∙ e, d))

    -- the pairs of subtrees
    pub tree-pairs : (f : Forest) → InTree A t f → AllIn (pairs_with A t) (both A (subtree_automaton (subtrees t)) f)
    tree-pairs nil h = tt
    tree-pairs (cons u f) h =
        (subst (λ (k : Pair). k ∈ pairs_with A t) (sym (run-pair u)) (tree-pair A fit t u h.0), tree-pairs f h.1)

    -- the pairs of trees that run to states
    pub run-pairs : (f : Forest) → ((q : ℕ) → q ∈ runs A f → 1 ≤ q) →
        AllIn (pairs_with A t) (both A (subtree_automaton (subtrees t)) f)
    run-pairs nil h = tt
    run-pairs (cons u f) h = (
      (pairs-exact A fit t (run A u, run B u)).1
          (live-first (run A u) (run B u) (h (run A u) (inl refl)), (u, sym (run-pair u))),
      run-pairs f (λ q i. h q (inr i)),
    )

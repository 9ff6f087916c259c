-- The number of a tree within its state is below the number of the state's trees, and the tree of that number is the
-- tree. So every number below has its tree, and the depth to which it is worked out does not matter.
use mathlib.Core.Bool.{Bool, cond, false, true}
use mathlib.Core.List.{List}
use mathlib.Core.Path.{◌∙◌, ◌≡◌, ap, refl, subst, sym}
use Prim.Native.Nat.{◌+◌, ◌<◌, ◌≤◌, suc, zero, ℕ}
use native.Mathlib.Omega.{arith}
use lib.Dec.{eqb}
use Rattle.automata.specs.Automaton.{Automaton, Transition, lookup, run, runs, states, step}
use Rattle.automata.specs.Order.{rising}
use Rattle.automata.specs.Ranks.{Chosen, children_of, rank_in, ranks_in, sum_before, transition_of, tree_of}
use Rattle.automata.specs.Totals.{product_over, sum_into, trees_of}
use Rattle.automata.specs.Valid.{states_in_range}
use Rattle.lists.specs.Tests.{any}
use Rattle.trees.specs.Tree.{AllTrees, Forest, Tree, cons, depth, depths, nil, node}
use Rattle.automata.proofs.RankChoices.{block_within, transition-at}
use Rattle.automata.proofs.RankFinite.{Finite, FiniteTree, finite-children}
use Rattle.automata.proofs.Totals.{trees-counted, trees-sum}
use Rattle.automata.proofs.TotalsFinite.{depth-states}
use Rattle.lists.proofs.Numberings.{number-onto}
use Rattle.lists.proofs.Radix.{radix-first, radix-less, radix-second}

-- a step to a state is what the table says
pub step-lookup : (A : Automaton) (a : ℕ) (qs : List ℕ) → 1 ≤ step A a qs →
    lookup a qs A.transitions ≡ step A a qs
step-lookup A a qs h = go (any (eqb 0) qs) h
  where
    go : (b : Bool) → 1 ≤ cond b 0 (lookup a qs A.transitions) →
        lookup a qs A.transitions ≡ cond b 0 (lookup a qs A.transitions)
    go true l = absurd (omega arith)
    go false l = refl

module _ (A : Automaton) (ranged : states_in_range A ≡ true) (rises : rising A.transitions ≡ true) where
  -- a state's trees are the sum over its transitions
  pub finite-sum : (q : ℕ) → Finite A q → trees_of A q ≡ sum_into (trees_of A) q A.transitions
  finite-sum q F = trees-sum A ranged rises q F.state F.many

  -- the trees at the transition of a node and those before it are among the trees of the state
  pub node-within : (a : ℕ) (f : Forest) → FiniteTree A (node a f) →
      sum_before (trees_of A) (run A (node a f)) a (runs A f) A.transitions + product_over (trees_of A) (runs A f)
      ≤ trees_of A (run A (node a f))
  node-within a f F =
      omega (
        arith,
        block_within (trees_of A) (run A (node a f)) a (runs A f) F.state.0 A.transitions
            (step-lookup A a (runs A f) F.state.0),
        finite-sum (run A (node a f)) F,
      )

  -- 02, order 4: the number of a tree within its state
  mutual
    pub rank_in-less : (t : Tree) → FiniteTree A t → rank_in A (trees_of A) t < trees_of A (run A t)
    rank_in-less (node a f) F =
        omega (arith, node-within a f F, ranks_in-less f (finite-children A ranged a f F))

    pub ranks_in-less : (f : Forest) → AllTrees (FiniteTree A) f →
        ranks_in A (trees_of A) f < product_over (trees_of A) (runs A f)
    ranks_in-less nil F = omega arith
    ranks_in-less (cons t f) F =
        radix-less (rank_in A (trees_of A) t) (ranks_in A (trees_of A) f) (trees_of A (run A t))
        (product_over (trees_of A) (runs A f)) (rank_in-less t F.0) (ranks_in-less f F.1)

  -- the transition of the number of a node
  pub transition-node : (a : ℕ) (f : Forest) → FiniteTree A (node a f) →
      transition_of (trees_of A) (run A (node a f)) (rank_in A (trees_of A) (node a f)) A.transitions
      ≡ record {
        what = record { label = a; args = runs A f; out = run A (node a f) };
        left = ranks_in A (trees_of A) f;
      }
  transition-node a f F =
      transition-at (trees_of A) (run A (node a f)) a (runs A f) F.state.0 (ranks_in A (trees_of A) f)
      (ranks_in-less f (finite-children A ranged a f F)) A.transitions
      (step-lookup A a (runs A f) F.state.0)

  mutual
    pub tree_of-rank : (t : Tree) (d : ℕ) → depth t ≤ d → FiniteTree A t →
        tree_of A (trees_of A) d (run A t) (rank_in A (trees_of A) t) ≡ t
    tree_of-rank (node a f) zero h F = absurd (omega arith)
    tree_of-rank (node a f) (suc d) h F =
        ap (λ (c : Chosen Transition).
        node c.what.label (children_of (tree_of A (trees_of A) d) (trees_of A) c.what.args c.left))
        (transition-node a f F)
        ∙ ap (node a) (children_of-rank f d (omega arith) (finite-children A ranged a f F))

    children_of-rank : (f : Forest) (d : ℕ) → depths f ≤ d → AllTrees (FiniteTree A) f →
        children_of (tree_of A (trees_of A) d) (trees_of A) (runs A f) (ranks_in A (trees_of A) f) ≡ f
    children_of-rank nil d h F = refl
    children_of-rank (cons t f) d h F =
        let l = ranks_in-less f F.1 in
        let m = product_over (trees_of A) (runs A f) in
        rw (
          radix-first (rank_in A (trees_of A) t) (ranks_in A (trees_of A) f) m l,
          radix-second (rank_in A (trees_of A) t) (ranks_in A (trees_of A) f) m l,
        )
        (cc (tree_of-rank t d (omega arith) F.0, children_of-rank f d (omega arith) F.1))

  -- the tree of a number within a state
  module _ (q : ℕ) (F : Finite A q) where
    at-run : (t : Tree) → run A t ≡ q → FiniteTree A t
    at-run t e = subst (Finite A) (sym e) F

    tree-any : (t : Tree) → run A t ≡ q → (d : ℕ) → states A ≤ d →
        tree_of A (trees_of A) d q (rank_in A (trees_of A) t) ≡ t
    tree-any t e d h =
        ap (λ (p : ℕ). tree_of A (trees_of A) d p (rank_in A (trees_of A) t)) (sym e)
        ∙ tree_of-rank t d (omega (arith, depth-states A ranged q F.state.0 F.many t e)) (at-run t e)

    tree-onto : (k : ℕ) → k < trees_of A q →
        (run A (tree_of A (trees_of A) (states A) q k) ≡ q)
        × (rank_in A (trees_of A) (tree_of A (trees_of A) (states A) q k) ≡ k)
    tree-onto =
        number-onto (λ t. run A t ≡ q) (trees_of A q) (trees-counted A ranged rises q F.state F.many)
        (rank_in A (trees_of A)) (tree_of A (trees_of A) (states A) q)
        (λ t e. subst (λ (p : ℕ). rank_in A (trees_of A) t < trees_of A p) e (rank_in-less t (at-run t e)))
        (λ t e. tree-any t e (states A) (omega arith))

    module _ (k : ℕ) (h : k < trees_of A q) where
      pub tree_of-run : run A (tree_of A (trees_of A) (states A) q k) ≡ q
      tree_of-run = (tree-onto k h).0

      pub tree_of-number : rank_in A (trees_of A) (tree_of A (trees_of A) (states A) q k) ≡ k
      tree_of-number = (tree-onto k h).1

      -- any depth from the number of states on gives the same tree
      pub tree_of-depth : (d : ℕ) → states A ≤ d →
          tree_of A (trees_of A) d q k ≡ tree_of A (trees_of A) (states A) q k
      tree_of-depth d l =
          ap (tree_of A (trees_of A) d q) (sym tree_of-number)
          ∙ tree-any (tree_of A (trees_of A) (states A) q k) tree_of-run d l

      -- 02, order 4: the tree of a number by the transition at its top and the children
      pub tree_of-step : tree_of A (trees_of A) (states A) q k
          ≡ node (transition_of (trees_of A) q k A.transitions).what.label
          (children_of (tree_of A (trees_of A) (states A)) (trees_of A)
          (transition_of (trees_of A) q k A.transitions).what.args
          (transition_of (trees_of A) q k A.transitions).left)
      tree_of-step = sym (tree_of-depth (suc (states A)) (omega arith))

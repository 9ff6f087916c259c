-- Where a tree that runs to no state stops (02, order 1): by the automaton, and in words of the set alone.
use Rattle.std.specs.Prelude.{Bool, ◌&&◌, not, ◌<◌, ◌≤◌, ℕ, eqb, length}
use Rattle.automata.specs.Automaton.{Automaton, run, runs}
use Rattle.automata.specs.Canonical.{Subtree}
use Rattle.lists.specs.Positions.{first_place}
use Rattle.lists.specs.Tests.{any}
use Rattle.trees.specs.Preorder.{preorder, preorders, subtree_at}
use Rattle.trees.specs.Tree.{AllTrees, Forest, Tree, node}

-- ---- by the automaton

-- the tree runs to no state, and each of its children to one; a leaf without a transition stops
abbrev pub stops : Automaton → Tree → Bool
stops A (node a f) = eqb (run A (node a f)) 0 && not (any (eqb 0) (runs A f))

-- the place of the first subtree that stops, counted in nodes of the listing from 1; 0 if none does
unfoldable pub stop_place : Automaton → Tree → ℕ
stop_place A t = first_place (stops A) (preorder t)

-- the same of a list of trees, whose listings stand in a row
unfoldable pub stop_places : Automaton → Forest → ℕ
stop_places A f = first_place (stops A) (preorders f)

-- ---- by the set

-- the tree stands in no tree of the set, and each of its children does
abbrev pub Stops : (Tree → Bool) → Tree → Type 0
Stops S (node a f) = (Subtree S (node a f) → ⊥) × AllTrees (Subtree S) f

-- the tree's node at place k stops, and none before it
pub record FirstStop (S : Tree → Bool) (t : Tree) (k : ℕ) : Type 0 where
  pub within : (1 ≤ k) × (k ≤ length (preorder t))
  pub stops : Stops S (subtree_at t k)
  pub first : (j : ℕ) → 1 ≤ j → j < k → Stops S (subtree_at t j) → ⊥

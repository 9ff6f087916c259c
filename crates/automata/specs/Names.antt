-- Names of trees after a change of a set by one tree, and the transitions between names.
use Rattle.std.specs.Prelude.{Bool, false, true, List, ◌≢◌, ◌≡◌, ℕ}
use Rattle.automata.specs.Automaton.{Automaton, Transition, run}
use Rattle.automata.specs.Canonical.{transition_of}
use Rattle.automata.specs.Change.{subtrees}
use Rattle.lists.specs.Closure.{elem}
use Rattle.lists.specs.Tests.{◌∈◌}
use Rattle.trees.specs.Context.{Frame, fill}
use Rattle.trees.specs.Tree.{Forest, Tree, eq_tree, node}

-- u is one of the distinct subtrees of t
abbrev pub is_subtree : Tree → Tree → Bool
is_subtree t u = elem eq_tree u (subtrees t)

-- names of trees after a change of the set by t: a tree that is no subtree of t has its state as its name, and two
-- trees have one name exactly if class and every frame agree; the name 0 is that of a tree in no tree of the set
pub record Naming (A : Automaton) (t : Tree) (S : Tree → Bool) (N : Tree → ℕ) : Type 0 where
  pub others : (u : Tree) → is_subtree t u ≡ false → N u ≡ run A u
  pub classed : (u v : Tree) → N u ≡ N v → S u ≡ S v
  pub filled : (u v : Tree) → N u ≡ N v → (f : Frame) → N (fill f u) ≡ N (fill f v)
  pub told : (u v : Tree) → is_subtree t u ≡ true → S u ≡ S v → ((f : Frame) → N (fill f u) ≡ N (fill f v)) → N u ≡ N v
  pub none-classed : (u : Tree) → N u ≡ 0 → S u ≡ false
  pub none_filled : (u : Tree) → N u ≡ 0 → (f : Frame) → N (fill f u) ≡ 0
  pub none_told : (u : Tree) → is_subtree t u ≡ true → S u ≡ false → ((f : Frame) → N (fill f u) ≡ 0) → N u ≡ 0

-- a transition between names: it stands at the top of a tree that has a name
abbrev pub BetweenNames : (Tree → ℕ) → Transition → Type 0
BetweenNames N τ = (a : ℕ) × (f : Forest) × (N (node a f) ≢ 0) × (τ ≡ transition_of N a f)

-- the transitions are those between names, in any order
pub record QuotientOf (N : Tree → ℕ) (W : List Transition) : Type 0 where
  pub all : (a : ℕ) (f : Forest) → N (node a f) ≢ 0 → transition_of N a f ∈ W
  pub only : (τ : Transition) → τ ∈ W → BetweenNames N τ

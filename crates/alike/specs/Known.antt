-- What the arrays hold while subtrees are named, and which names are known: those of the subtrees with numbers above
-- j.
use Rattle.std.specs.Prelude.{false, List, ◌≡◌, ◌-◌, ◌<◌, ◌≤◌, ℕ, get_or}
use Rattle.std.specs.Bool.{⊤}
use Rattle.automata.specs.Automaton.{Automaton, run}
use Rattle.automata.specs.Change.{subtrees}
use Rattle.automata.specs.Names.{is_subtree}
use Rattle.lists.specs.Tests.{◌∈◌}
use Rattle.subtrees.specs.Store.{Stored, tree_numbered}
use Rattle.trees.specs.Tree.{Tree}
use Rattle.alike.specs.declared.frames.Candidate.{Candidate}
use Rattle.alike.specs.declared.frames.Candidate.TheVariants.{State, Subtree}

-- arrays of labels, numbers of children, child numbers and states hold the m distinct subtrees of t
pub record Holds (A : Automaton) (t : Tree) (ts : List Tree) (m : ℕ) (l r c q : List ℕ) : Type 0 where
  pub stored : Stored A ts m l r c q
  pub subtree : (x : Tree) → x ∈ ts → x ∈ subtrees t
  pub every-subtree : (x : Tree) → x ∈ subtrees t → x ∈ ts

-- N gives a tree that is no subtree of t its state as its name, and subtree x above j entry x - 1 of names
pub record NamedAbove (A : Automaton) (t : Tree) (ts : List Tree) (m j : ℕ) (names : List ℕ) (N : Tree → ℕ) : Type 0 where
  pub others : (u : Tree) → is_subtree t u ≡ false → N u ≡ run A u
  pub named : (x : ℕ) → j < x → x ≤ m → N (tree_numbered ts x) ≡ get_or names (x - 1) 0

-- x is a state, or the number of one of m subtrees
abbrev pub Numbered : ℕ → Candidate → Type 0
Numbered m (State q) = ⊤
Numbered m (Subtree v) = (1 ≤ v) × (v ≤ m)

-- x is a state, or a subtree from number j on
abbrev pub FromOn : ℕ → Candidate → Type 0
FromOn j (State q) = ⊤
FromOn j (Subtree v) = j ≤ v

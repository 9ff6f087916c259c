-- Names of all trees from names of the subtrees of a tree t.
use Rattle.std.specs.Prelude.{cond, true, List, ◌⊎◌, ◌≡◌, ℕ}
use Rattle.automata.specs.Automaton.{Automaton, run}
use Rattle.automata.specs.Names.{is_subtree}
use Rattle.automata.specs.OpenStates.{open_state}
use Rattle.automata.specs.Quotient.{own_name}
use Rattle.trees.specs.Tree.{Tree}

-- the name of a subtree of t is given; any other tree has its state as its name
abbrev pub name_of : Automaton → Tree → (Tree → ℕ) → Tree → ℕ
name_of A t ν u = cond (is_subtree t u) (ν u) (run A u)

-- x is the own name of a subtree that has its own name
abbrev pub IsOwnName : Automaton → Tree → List Tree → (Tree → ℕ) → ℕ → Type 0
IsOwnName A t ts ν x = (v : Tree) × (is_subtree t v ≡ true) × (ν v ≡ own_name A ts v) × (x ≡ own_name A ts v)

-- each subtree is named 0, by an open state, or by an own name
pub record Names (A : Automaton) (t : Tree) (ts : List Tree) (ν : Tree → ℕ) : Type 0 where
  pub named : (u : Tree) → is_subtree t u ≡ true → (ν u ≡ 0) ⊎ ((open_state A t (ν u) ≡ true) ⊎ IsOwnName A t ts ν (ν u))

-- What the arrays hold while subtrees are named.
use Rattle.std.specs.Prelude.{Bool, List, ◌≡◌, ℕ}
use Rattle.automata.specs.Automaton.{Automaton, states}
use Rattle.naming.specs.Classes.{Classed, ClassesIn}
use Rattle.trees.specs.Tree.{Tree}
use Rattle.uses.specs.Uses.{Holds}

-- the table b has the n states of A, and s its transitions; the arrays have the m subtrees of t with their classes in
-- S, and w the number of pairs of each state
pub record Known (A : Automaton) (t : Tree) (ts : List Tree) (S : Tree → Bool) (b s : List ℕ) (count n m : ℕ)
    (l r c q w cl : List ℕ) : Type 0 where
  pub holds : Holds A t ts s count n l r c q w m
  pub size : states A ≡ n
  pub classes : ClassesIn A b
  pub classed : Classed S ts m cl

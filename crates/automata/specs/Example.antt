-- The paper's example (sample P7), whole: four trees, and (2 (1) (2)) put in.
use Rattle.std.specs.Prelude.{false, true, List, [], ◌∷◌, ℕ}
use Rattle.automata.specs.Automaton.{Automaton, Transition, empty_automaton}
use Rattle.automata.specs.Change.{insert_tree}
use Rattle.trees.specs.Tree.{Tree, cons, nil, node}

-- the tree (a)
abbrev pub leaf : ℕ → Tree
leaf a = node a nil

-- the tree (a (b) (c))
abbrev pub fork : ℕ → ℕ → ℕ → Tree
fork a b c = node a (cons (leaf b) (cons (leaf c) nil))

-- all trees of a list put in, the last first
abbrev pub inserted : List Tree → Automaton
inserted [] = empty_automaton
inserted (t ∷ ts) = insert_tree t (inserted ts)

-- the tree that is put in, and the four that were put in before it, the first last
abbrev pub example_trees : List Tree
example_trees = fork 2 1 2 ∷ fork 1 2 2 ∷ fork 1 2 1 ∷ fork 1 1 2 ∷ fork 1 1 1 ∷ []

-- a transition with these fields
abbrev pub transition : ℕ → List ℕ → ℕ → Transition
transition a qs q = record { label = a; args = qs; out = q }

-- the states of (1), of (2) and of the five trees; leaves first, then by label and arguments
abbrev pub example : Automaton
example = record {
  classes = false ∷ false ∷ true ∷ [];
  transitions =
      transition 1 [] 1 ∷ transition 2 [] 2 ∷ transition 1 (1 ∷ 1 ∷ []) 3 ∷ transition 1 (1 ∷ 2 ∷ []) 3 ∷
      transition 1 (2 ∷ 1 ∷ []) 3 ∷ transition 1 (2 ∷ 2 ∷ []) 3 ∷ transition 2 (1 ∷ 2 ∷ []) 3 ∷ [];
}

-- A tree put into a set or taken out of it, on the set's automaton.
use Rattle.std.specs.Prelude.{Bool, ◌&&◌, ◌||◌, cond, not, true, List, [], ◌∷◌, map, ℕ, eqb, length}
use Rattle.automata.specs.Automaton.{Automaton, Transition, accepting}
use Rattle.automata.specs.Canonical.{transition_of}
use Rattle.automata.specs.Minimal.{minimal}
use Rattle.automata.specs.Product.{accessible_pairs, product}
use Rattle.lists.specs.Closure.{elem}
use Rattle.lists.specs.Positions.{Pair, position}
use Rattle.trees.specs.Tree.{Forest, Tree, cons, eq_tree, nil, node}

-- a tree added to a list, if it is not there yet
abbrev pub add_new : Tree → List Tree → List Tree
add_new t P = cond (elem eq_tree t P) P (t ∷ P)

-- the distinct subtrees of a tree, added to a list
abbrev mutual
  pub collect : Tree → List Tree → List Tree
  collect (node a f) P = add_new (node a f) (collects f P)

  pub collects : Forest → List Tree → List Tree
  collects nil P = P
  collects (cons t f) P = collect t (collects f P)

-- the distinct subtrees of a tree (01: the distinct parts)
abbrev pub subtrees : Tree → List Tree
subtrees t = collect t []

-- the number of a subtree, from 1; 0 for any other tree
abbrev pub subtree_number : List Tree → Tree → ℕ
subtree_number P t = position eq_tree P t

-- the transition at the top of a subtree
abbrev pub subtree_transition : List Tree → Tree → Transition
subtree_transition P (node a f) = transition_of (subtree_number P) a f

-- the automaton that runs each subtree to its number and any other tree to none
unfoldable pub subtree_automaton : List Tree → Automaton
subtree_automaton P = record { classes = map (λ t. true) P; transitions = map (subtree_transition P) P }

-- the product with a tree (01: the pair automaton): a tree runs to its state in the one and, if it is
-- a subtree of t, to its number in the other
unfoldable pub product_with : (Pair → Bool) → Automaton → Tree → Automaton
product_with cls A t = product cls A (subtree_automaton (subtrees t))

-- the number of pairs
unfoldable pub product_pairs : Automaton → Tree → ℕ
product_pairs A t = length (accessible_pairs A (subtree_automaton (subtrees t)))

-- the number of transitions between pairs (01, refusal 16)
unfoldable pub product_transitions : Automaton → Tree → ℕ
product_transitions A t = length (product_with (λ k. true) A t).transitions

-- t's own pair becomes accepting, every other pair has the class of its state
unfoldable pub insert_tree : Tree → Automaton → Automaton
insert_tree t A =
    let w = subtree_number (subtrees t) t in minimal (product_with (λ k. accepting A k.0 || eqb k.1 w) A t)

-- t's own pair is no longer accepting
unfoldable pub delete_tree : Tree → Automaton → Automaton
delete_tree t A =
    let w = subtree_number (subtrees t) t in
    minimal (product_with (λ k. accepting A k.0 && not (eqb k.1 w)) A t)

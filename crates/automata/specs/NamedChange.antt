-- A change of an automaton's set by one tree, and the names that are in use after it.
use Rattle.std.specs.Prelude.{Bool, ◌&&◌, ◌||◌, cond, not, List, ◌++◌, map, ◌⊎◌, ◌≡◌, ◌-◌, ◌≤◌, ℕ, leb, get_or, length}
use Rattle.automata.specs.Automaton.{Automaton, Transition, accepting, accepts, states}
use Rattle.automata.specs.Change.{delete_tree, insert_tree, subtrees}
use Rattle.automata.specs.OpenStates.{open_state}
use Rattle.automata.specs.Quotient.{has_own, own_name}
use Rattle.lists.specs.Positions.{up_from}
use Rattle.lists.specs.Tests.{◌∈◌, filter}
use Rattle.trees.specs.Tree.{Forest, Tree, count, eq_tree, no_tree, node}

-- the set after the change: t put in or taken out
unfoldable pub changed_set : Bool → Automaton → Tree → Tree → Bool
changed_set inserting A t v =
    cond inserting (accepts A v || eq_tree v t) (accepts A v && not (eq_tree v t))

-- the automaton after the change
unfoldable pub changed_automaton : Bool → Tree → Automaton → Automaton
changed_automaton inserting t A = cond inserting (insert_tree t A) (delete_tree t A)

-- the class of a name in a set: that of the state, or that of the subtree with the number
unfoldable pub name_class : Automaton → List Tree → (Tree → Bool) → ℕ → Bool
name_class A ts S x = cond (leb x (states A)) (accepting A x) (S (get_or ts (x - states A - 1) no_tree))

-- the names in use: the open states, and the own names of subtrees
unfoldable pub names_in_use : Automaton → Tree → List Tree → (Tree → ℕ) → List ℕ
names_in_use A t ts ν =
    filter (open_state A t) (up_from 1 (states A)) ++ map (own_name A ts) (filter (has_own A ts ν) ts)

-- a transition of A, or a node of t, has this label and this arity
abbrev pub ShapeOf : Automaton → Tree → ℕ → ℕ → Type 0
ShapeOf A t a k =
    ((τ : Transition) × (τ ∈ A.transitions) × (τ.label ≡ a) × (length τ.args ≡ k)) ⊎
    ((f : Forest) × (node a f ∈ subtrees t) × (count f ≡ k))

-- a transition stands over names in use, and is shaped as one of A or as a node of t
pub record OverNames (A : Automaton) (t : Tree) (ts : List Tree) (ν : Tree → ℕ) (σ : Transition) : Type 0 where
  pub args : (x : ℕ) → x ∈ σ.args → x ∈ names_in_use A t ts ν
  pub out : σ.out ∈ names_in_use A t ts ν
  pub positive : 1 ≤ σ.out
  pub shape : ShapeOf A t σ.label (length σ.args)

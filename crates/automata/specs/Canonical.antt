-- The canonical automaton of a set of trees (01: the book of a set), by the words of 01. A set is a test
-- of trees; nothing here says that it is finite.
use Rattle.std.specs.Prelude.{Bool, true, List, [], ◌∷◌, ◌≡◌, ◌≤◌, ℕ}
use Rattle.automata.specs.Automaton.{Automaton, Transition, accepting, states}
use Rattle.automata.specs.Numbered.{numbered}
use Rattle.automata.specs.Order.{rising}
use Rattle.lists.specs.Tests.{◌∈◌}
use Rattle.trees.specs.Context.{Context, plug}
use Rattle.trees.specs.Tree.{Forest, Tree, cons, nil, node}

-- t is a subtree of a tree of the set (01: a part)
abbrev pub Subtree : (Tree → Bool) → Tree → Type 0
Subtree S t = (c : Context) × (S (plug c t) ≡ true)

-- the two can stand for each other in every context (01: alike, interchangeable)
abbrev pub Equivalent : (Tree → Bool) → Tree → Tree → Type 0
Equivalent S t u = (c : Context) → S (plug c t) ≡ S (plug c u)

-- the number of each tree of a list
abbrev pub each_tree : (Tree → ℕ) → Forest → List ℕ
each_tree g nil = []
each_tree g (cons t f) = g t ∷ each_tree g f

-- the transition at a node, with the subtrees numbered by g
abbrev pub transition_of : (Tree → ℕ) → ℕ → Forest → Transition
transition_of g a f = record { label = a; args = each_tree g f; out = g (node a f) }

-- a transition occurs at a node of a subtree
abbrev pub Occurs : (Tree → Bool) → (Tree → ℕ) → Transition → Type 0
Occurs S g τ = (a : ℕ) × (f : Forest) × Subtree S (node a f) × (τ ≡ transition_of g a f)

-- the automaton of the set (01: the book of a set)
pub record Canonical (S : Tree → Bool) (A : Automaton) : Type 0 where
  -- the state of a subtree's group
  pub group : Tree → ℕ
  -- one state for each group of equivalent subtrees
  pub joins : (t u : Tree) → Subtree S t → Subtree S u → Equivalent S t u → group t ≡ group u
  pub separates : (t u : Tree) → Subtree S t → Subtree S u → group t ≡ group u → Equivalent S t u
  -- the states are 1 to n, and none is unused
  pub range : (t : Tree) → Subtree S t → (1 ≤ group t) × (group t ≤ states A)
  pub onto : (q : ℕ) → 1 ≤ q → q ≤ states A → (t : Tree) × Subtree S t × (group t ≡ q)
  -- the class of a group: 1 if its subtrees are in the set
  pub classed : (t : Tree) → Subtree S t → accepting A (group t) ≡ S t
  -- the transitions are those that occur in subtrees
  pub occurs : (a : ℕ) (f : Forest) → Subtree S (node a f) → transition_of group a f ∈ A.transitions
  pub only : (τ : Transition) → τ ∈ A.transitions → Occurs S group τ
  -- sorted, each once, and the states numbered by the rule
  pub sorted : rising A.transitions ≡ true
  pub ruled : numbered A ≡ true

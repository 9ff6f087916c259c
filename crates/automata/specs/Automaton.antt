-- Frontier-to-root tree automata. States are 1 to n; 0 is "no state" (the paper's absorption state).
use Rattle.std.specs.Prelude.{Bool, ◌&&◌, cond, false, true, List, [], ◌∷◌, ◌≡◌, ◌≤◌, suc, zero, ℕ, eqb, leb, get_or, length}
use Rattle.lists.specs.Tests.{any, every, same_list}
use Rattle.trees.specs.Tree.{Forest, Tree, cons, nil, node}

-- a transition (01: a line): a label over argument states gives an output state
pub record Transition : Type 0 where
  pub label : ℕ
  pub args : List ℕ
  pub out : ℕ

-- the class of each state, and the transitions
pub record Automaton : Type 0 where
  pub classes : List Bool
  pub transitions : List Transition

-- a transition has this label and these arguments
abbrev pub matches : ℕ → List ℕ → Transition → Bool
matches a qs τ = eqb a τ.label && same_list qs τ.args

-- the output of the first transition that has this label and these arguments, else 0
abbrev pub lookup : ℕ → List ℕ → List Transition → ℕ
lookup a qs [] = 0
lookup a qs (τ ∷ τs) = let r = lookup a qs τs in cond (matches a qs τ) τ.out r

-- the number of states
abbrev pub states : Automaton → ℕ
states A = length A.classes

-- q is one of the states 1 to n
abbrev pub IsState : Automaton → ℕ → Type 0
IsState A q = (1 ≤ q) × (q ≤ states A)

-- the outputs of the transitions are at most n
abbrev pub Fits : Automaton → Type 0
Fits A = every (λ τ. leb τ.out (states A)) A.transitions ≡ true

-- the state of a node from its label and its children's states; 0 if a child has none
abbrev pub step : Automaton → ℕ → List ℕ → ℕ
step A a qs = cond (any (eqb 0) qs) 0 (lookup a qs A.transitions)

-- the class of a state (01: class 1 is approved); "no state" is not accepting
abbrev pub accepting : Automaton → ℕ → Bool
accepting A zero = false
accepting A (suc q) = get_or A.classes q false

-- the state that a tree runs to (01: leads to), and those of a list of trees
abbrev mutual
  pub run : Automaton → Tree → ℕ
  run A (node a f) = step A a (runs A f)

  pub runs : Automaton → Forest → List ℕ
  runs A nil = []
  runs A (cons t f) = run A t ∷ runs A f

-- the tree is accepted (01: approved): it runs to an accepting state
abbrev pub accepts : Automaton → Tree → Bool
accepts A t = accepting A (run A t)

-- the automaton of the empty set
abbrev pub empty_automaton : Automaton
empty_automaton = record { classes = []; transitions = [] }

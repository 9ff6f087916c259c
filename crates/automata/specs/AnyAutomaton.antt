-- Frontier-to-root tree automata of any make (order 13): finitely many transitions over states that are any numbers.
-- Nothing here knows a table: no order of transitions, no rule of numbering, no number for "no state".
use Rattle.std.specs.Prelude.{Bool, true, List, [], ◌∷◌, ◌↔◌, ◌⊎◌, ◌≡◌, ◌<◌, ◌≤◌, ℕ, length}
use Rattle.automata.specs.Automaton.{Transition}
use Rattle.lists.specs.Tests.{◌∈◌}
use Rattle.trees.specs.Tree.{Forest, Tree, cons, nil, node}

-- the transitions, in any order and some perhaps more than once, and which states are accepting
pub record AnyAutomaton : Type 0 where
  pub transitions : List Transition
  pub accepting : ℕ → Bool

-- a tree runs to a state if its children run to the arguments of a transition that has its label and this output; trees
-- run to states one by one
abbrev mutual
  pub RunsTo : AnyAutomaton → Tree → ℕ → Type 0
  RunsTo B (node a f) q =
      (qs : List ℕ) × RunEach B f qs × (record { label = a; args = qs; out = q } ∈ B.transitions)

  pub RunEach : AnyAutomaton → Forest → List ℕ → Type 0
  RunEach B nil [] = Unit {0}
  RunEach B nil (q ∷ qs) = ⊥
  RunEach B (cons t f) [] = ⊥
  RunEach B (cons t f) (q ∷ qs) = RunsTo B t q × RunEach B f qs

-- the tree is accepted: it runs to an accepting state
abbrev pub Accepts : AnyAutomaton → Tree → Type 0
Accepts B t = (q : ℕ) × RunsTo B t q × (B.accepting q ≡ true)

-- the automaton is one for the set: it accepts the trees of the set and no others
abbrev pub Recognizes : AnyAutomaton → (Tree → Bool) → Type 0
Recognizes B S = (t : Tree) → Accepts B t ↔ (S t ≡ true)

-- a label over arguments has at most one output
abbrev pub Deterministic : AnyAutomaton → Type 0
Deterministic B =
    (σ τ : Transition) → σ ∈ B.transitions → τ ∈ B.transitions → σ.label ≡ τ.label → σ.args ≡ τ.args →
    σ.out ≡ τ.out

-- a state occurs: it is an argument or the output of a transition
abbrev pub StateOf : AnyAutomaton → ℕ → Type 0
StateOf B q = (τ : Transition) × (τ ∈ B.transitions) × ((q ∈ τ.args) ⊎ (q ≡ τ.out))

-- the list has every state that occurs, and perhaps unused ones
abbrev pub HasStates : AnyAutomaton → List ℕ → Type 0
HasStates B Q = (q : ℕ) → StateOf B q → q ∈ Q

-- the list has every transition
abbrev pub HasTransitions : AnyAutomaton → List Transition → Type 0
HasTransitions B T = (τ : Transition) → τ ∈ B.transitions → τ ∈ T

-- the automaton has at least n states and at least m distinct transitions, however they are listed
pub record AtLeast (n m : ℕ) (B : AnyAutomaton) : Type 0 where
  pub states : (Q : List ℕ) → HasStates B Q → n ≤ length Q
  pub transitions : (T : List Transition) → HasTransitions B T → m ≤ length T

-- the automaton has more than n states or more than m distinct transitions, however they are listed
abbrev pub Exceeds : ℕ → ℕ → AnyAutomaton → Type 0
Exceeds n m B =
    (Q : List ℕ) (T : List Transition) → HasStates B Q → HasTransitions B T → (n < length Q) ⊎ (m < length T)

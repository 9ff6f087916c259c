-- Samples of order 13: other automata of P6's set and of a set with a loop, and one with two outputs for a label.
use Rattle.std.specs.Prelude.{false, true, List, [], ◌∷◌, ◌<◌, ℕ, eqb, length}
use Rattle.automata.specs.AnyAutomaton.{AnyAutomaton, Deterministic, Recognizes, StateOf}
use Rattle.automata.specs.Automaton.{Automaton, accepts, states}
use Rattle.automata.specs.Canonical.{Canonical}
use Rattle.automata.specs.Example.{fork, transition}
use Rattle.lists.specs.Tests.{Counts, ◌∈◌}
use Rattle.trees.specs.Tree.{Tree}

-- A is canonical, and B is a deterministic automaton of its set in which n states occur, more than A has, and which has m
-- distinct transitions, more than A has
pub record Larger (A : Automaton) (n m : ℕ) (B : AnyAutomaton) : Type 0 where
  pub canonical : Canonical (accepts A) A
  pub deterministic : Deterministic B
  pub recognizes : Recognizes B (accepts A)
  pub occurring : Counts (StateOf B) n
  pub distinct : Counts (λ τ. τ ∈ B.transitions) m
  pub more-states : states A < n
  pub more-transitions : length A.transitions < m

-- ---- automata of P6's set

-- the four trees of P6
abbrev pub p6_trees : List Tree
p6_trees = fork 1 2 2 ∷ fork 1 2 1 ∷ fork 1 1 2 ∷ fork 1 1 1 ∷ []

-- the canonical one: 2 states, 3 transitions
abbrev pub p6_automaton : Automaton
p6_automaton = record {
  classes = false ∷ true ∷ [];
  transitions = transition 1 [] 1 ∷ transition 2 [] 1 ∷ transition 1 (1 ∷ 1 ∷ []) 2 ∷ [];
}

-- (1) and (2) not merged: 3 states, 6 transitions
abbrev pub unmerged : Automaton
unmerged = record {
  classes = false ∷ false ∷ true ∷ [];
  transitions =
      transition 1 [] 1 ∷ transition 2 [] 2 ∷ transition 1 (1 ∷ 1 ∷ []) 3 ∷ transition 1 (1 ∷ 2 ∷ []) 3 ∷
      transition 1 (2 ∷ 1 ∷ []) 3 ∷ transition 1 (2 ∷ 2 ∷ []) 3 ∷ [];
}

-- numbered otherwise, and (9) runs to a state that no accepted tree uses: 3 states, 4 transitions
abbrev pub unused : Automaton
unused = record {
  classes = false ∷ true ∷ false ∷ false ∷ false ∷ [];
  transitions = transition 1 [] 5 ∷ transition 2 [] 5 ∷ transition 9 [] 3 ∷ transition 1 (5 ∷ 5 ∷ []) 2 ∷ [];
}

-- label 1 over any other two states gives the sink 3: 3 states, 11 transitions
abbrev pub with_sink : Automaton
with_sink = record {
  classes = false ∷ true ∷ false ∷ [];
  transitions =
      transition 1 [] 1 ∷ transition 2 [] 1 ∷ transition 1 (1 ∷ 1 ∷ []) 2 ∷
      transition 1 (1 ∷ 2 ∷ []) 3 ∷ transition 1 (1 ∷ 3 ∷ []) 3 ∷ transition 1 (2 ∷ 1 ∷ []) 3 ∷
      transition 1 (2 ∷ 2 ∷ []) 3 ∷ transition 1 (2 ∷ 3 ∷ []) 3 ∷ transition 1 (3 ∷ 1 ∷ []) 3 ∷
      transition 1 (3 ∷ 2 ∷ []) 3 ∷ transition 1 (3 ∷ 3 ∷ []) 3 ∷ [];
}

-- ---- a set with a loop: the chains of label 5

-- the canonical one: 1 state, 2 transitions
abbrev pub chains : Automaton
chains = record { classes = true ∷ []; transitions = transition 5 [] 1 ∷ transition 5 (1 ∷ []) 1 ∷ [] }

-- even and odd chains apart: 2 states, 3 transitions
abbrev pub unrolled : Automaton
unrolled = record {
  classes = true ∷ true ∷ [];
  transitions = transition 5 [] 1 ∷ transition 5 (1 ∷ []) 2 ∷ transition 5 (2 ∷ []) 1 ∷ [];
}

-- ---- two outputs for a label

-- the first child is (1) or (2), the second is (1) or (3)
abbrev pub cross_trees : List Tree
cross_trees = fork 5 1 1 ∷ fork 5 1 3 ∷ fork 5 2 1 ∷ fork 5 2 3 ∷ []

-- (1) runs to 1 and to 2: 3 states and 5 transitions, where the canonical automaton has 4 and 7
abbrev pub two_outputs : AnyAutomaton
two_outputs = record {
  transitions =
      transition 1 [] 1 ∷ transition 1 [] 2 ∷ transition 2 [] 1 ∷ transition 3 [] 2 ∷ transition 5 (1 ∷ 2 ∷ []) 3 ∷ [];
  accepting = eqb 3;
}

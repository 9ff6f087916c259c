-- An automaton with states 1 to n as one of any make.
use Rattle.std.specs.Prelude.{List, ◌∷◌, ℕ, eqb}
use Rattle.automata.specs.AnyAutomaton.{AnyAutomaton}
use Rattle.automata.specs.Automaton.{Automaton, accepting, states}
use Rattle.lists.specs.Closure.{elem}
use Rattle.lists.specs.Positions.{up_from}
use Rattle.lists.specs.Tests.{any, filter}

-- the same transitions and the same accepting states
abbrev pub general : Automaton → AnyAutomaton
general A = record { transitions = A.transitions; accepting = accepting A }

-- the states that occur
abbrev pub occurring : Automaton → List ℕ
occurring A = filter (λ q. any (λ τ. elem eqb q (τ.out ∷ τ.args)) A.transitions) (up_from 1 (states A))

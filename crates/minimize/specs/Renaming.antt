-- Tables of names for states, and the bytes of a transition.
use Rattle.std.specs.Prelude.{List, map, ℕ, get_or, replicate}
use Rattle.automata.specs.Automaton.{Transition}
use Rattle.format.specs.Format.{transition_bytes}
use Rattle.lists.specs.Positions.{up_from}
use Rattle.table.specs.Layout.{transition_byte}

-- n bytes that are 0
unfoldable pub zeros : ℕ → List ℕ
zeros n = replicate n 0

-- the name of a state
abbrev pub name_in : List ℕ → ℕ → ℕ
name_in names q = get_or names q 0

-- the bytes of a transition
unfoldable pub entry_of : Transition → List ℕ
entry_of τ = map (transition_byte τ) (up_from 0 transition_bytes)

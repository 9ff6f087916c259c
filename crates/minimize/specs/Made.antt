-- What writing the automaton of some transitions returns and leaves in the table.
use Rattle.std.specs.Prelude.{Err, Ok, Result, cond, List, ℕ, length}
use Rattle.automata.specs.Automaton.{Automaton, accepting, states}
use Rattle.automata.specs.Renumber.{renumbered}
use Rattle.fields.specs.View.{viewed}
use Rattle.minimize.specs.declared.write.Size.{Size}
use Rattle.minimize.specs.declared.write.TooBig.{TooBig}
use Rattle.table.specs.Intake.{fits_table}
use Rattle.table.specs.Layout.{encode, transitions_in}

-- the automaton of the transitions in bytes, its states numbered by the rule
abbrev pub renumbered_in : List ℕ → List ℕ → ℕ → ℕ → Automaton
renumbered_in classes run n count = renumbered (accepting (viewed classes run n count)) (transitions_in run count)

-- the numbers of states and of transitions, or that a table cannot hold so many (01, refusal 17)
abbrev pub made_of : Automaton → Result Size TooBig
made_of A =
    cond (fits_table A) (Ok (record { states = states A; transitions = length A.transitions })) (Err (record {}))

-- the table that is left: that of the automaton, or the old one if it cannot hold the automaton
abbrev pub written_to : Automaton → List ℕ → List ℕ
written_to A b = cond (fits_table A) (encode A) b

-- `validity::usefulness::accepting_marks` meets its contract: the entries before q are as the classes say, the
-- others 0.
use Rattle.std.proofs.Common.{◌≡◌, ℕ, ◌<◌, ◌≤◌, false, [], length}
use Rattle.automata.specs.Automaton.{accepting}
use Rattle.fields.specs.View.{viewed}
use Rattle.format.specs.Format.{byte_values}
use Rattle.marking.specs.Marks.{marked}
use Rattle.validity.proofs.usefulness.accepting_marks.Given as goal

abbrev pub invariant-loop-q : goal.invariant-loop-q
invariant-loop-q l = (length l.marks ≡ byte_values) ×
    ((j : ℕ) → j < l.q → marked l.marks j ≡ accepting (viewed l.classes [] l.n 0) j) ×
    ((j : ℕ) → l.q ≤ j → marked l.marks j ≡ false)

-- `numbering::givers::place_given` meets its contract: the numbers given so far stay.
use mathlib.Core.Path.{◌≡◌}
use Rattle.numbering.proofs.givers.place_given.Given as goal

abbrev pub invariant-loop-i : goal.invariant-loop-i
invariant-loop-i l = l.placing.numbers ≡ l.initial.placing.numbers

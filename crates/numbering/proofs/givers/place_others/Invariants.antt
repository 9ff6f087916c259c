-- `numbering::givers::place_others` meets its contract: the numbers given so far stay.
use mathlib.Core.Path.{◌≡◌}
use Rattle.numbering.proofs.givers.place_others.Given as goal

abbrev pub invariant-loop-i : goal.invariant-loop-i
invariant-loop-i l = l.placing.numbers ≡ l.initial.placing.numbers

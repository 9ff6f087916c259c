-- `numbering::givers::place_few` meets its contract: the numbers given so far stay.
use mathlib.Core.Path.{◌≡◌}
use Rattle.numbering.proofs.givers.place_few.Given as goal

abbrev pub invariant-loop-q : goal.invariant-loop-q
invariant-loop-q l = l.placing.numbers ≡ l.initial.placing.numbers

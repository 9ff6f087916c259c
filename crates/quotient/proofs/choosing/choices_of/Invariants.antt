-- `quotient::choosing::choices_of` meets its contract: the places before k have their first names.
use Rattle.quotient.proofs.OneChoice.{FirstNames}
use Rattle.quotient.proofs.choosing.choices_of.Given as goal

abbrev pub invariant-loop-k : goal.invariant-loop-k
invariant-loop-k l = FirstNames l.names l.transitions l.at l.none l.only l.own l.prefix l.k

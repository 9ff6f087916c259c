-- `numbering::renumbering::number_names` meets its contract: the first k names have their numbers.
use Rattle.numbering.specs.Steps.{Numbered}
use Rattle.numbering.proofs.renumbering.number_names.Given as goal

abbrev pub invariant-loop-k : goal.invariant-loop-k
invariant-loop-k l = Numbered l.order l.k l.numbers

-- `partition::repairing::part_keys` meets its contract: the keys before q are noted.
use Rattle.format.specs.Format.{byte_values}
use Rattle.lists.proofs.Filling.{FilledTo}
use Rattle.partition.specs.Splits.{part_key}
use Rattle.partition.proofs.repairing.part_keys.Given as goal

abbrev pub invariant-loop-q : goal.invariant-loop-q
invariant-loop-q l = FilledTo byte_values (part_key l.transitions l.count l.parts l.i l.k l.lead) l.keys l.q

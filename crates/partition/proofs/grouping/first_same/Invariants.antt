-- `partition::grouping::first_same` meets its contract: no state before p is of q's part and key.
use Rattle.partition.specs.Splits.{key_of}
use Rattle.partition.proofs.Moving.{NoneBefore}
use Rattle.partition.proofs.grouping.first_same.Given as goal

abbrev pub invariant-loop-p : goal.invariant-loop-p
invariant-loop-p l = NoneBefore l.parts (key_of l.keys) l.q l.p

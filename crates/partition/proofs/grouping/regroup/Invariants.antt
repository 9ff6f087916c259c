-- `partition::grouping::regroup` meets its contract: the states from q on are moved.
use Prim.Native.Nat.{◌-◌}
use Rattle.partition.specs.Splits.{key_of}
use Rattle.partition.proofs.Moving.{RegroupedAbove}
use Rattle.partition.proofs.grouping.regroup.Given as goal

abbrev pub invariant-loop-q : goal.invariant-loop-q
invariant-loop-q l = RegroupedAbove l.n (key_of l.keys) (l.q - 1) l.initial.parts l.parts l.changed

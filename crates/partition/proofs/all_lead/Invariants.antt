-- `partition::all_lead` meets its contract: the states before q lead.
use Prim.Native.Nat.{◌+◌}
use Rattle.lists.specs.Positions.{up_from}
use Rattle.lists.specs.Tests.{every}
use Rattle.lists.proofs.Loops.{EveryFrom}
use Rattle.partition.specs.Parts.{leads}
use Rattle.partition.proofs.all_lead.Given as goal

abbrev pub invariant-loop-q : goal.invariant-loop-q
invariant-loop-q l = EveryFrom (every (leads l.parts) (up_from 1 l.n)) (leads l.parts) (l.n + 1) l.q

-- `numbering::order::count_outputs` meets its contract: no more outputs are counted than heads were read.
use Prim.Native.Nat.{◌≤◌}
use Rattle.numbering.proofs.order.count_outputs.Given as goal

abbrev pub invariant-loop-head : goal.invariant-loop-head
invariant-loop-head l = l.outputs ≤ l.head-index

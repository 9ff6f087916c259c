-- `numbering::order::follow` meets its contract: the heap and the order have room.
use Prim.Native.Nat.{◌≤◌}
use lib.ListN.{length}
use Rattle.packed.specs.Heads.{Room}
use Rattle.numbering.proofs.order.follow.Given as goal

abbrev pub invariant-loop : goal.invariant-loop
invariant-loop l = record {
  size : l.size ≤ length l.room;
  states : l.states ≤ l.outputs;
  room : Room l.room l.spare;
}

-- `packed::slots::next_in_slot` meets its contract: none so far is in the slot, and after a transition past the slot
-- none is.
use Prim.Native.Nat.{◌≤◌}
use Rattle.packed.proofs.Walks.{SlotWalk}
use Rattle.packed.proofs.slots.next_in_slot.Given as goal

abbrev pub invariant-loop-i : goal.invariant-loop-i
invariant-loop-i l = (l.from ≤ l.i) × SlotWalk l.transitions l.z l.from l.i

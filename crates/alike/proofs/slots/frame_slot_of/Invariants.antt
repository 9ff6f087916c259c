-- `alike::slots::frame_slot_of` meets its contract: any frame over subtree j will do.
use Prim.Native.Nat.{◌≤◌}
use Rattle.alike.proofs.slots.frame_slot_of.Given as goal

abbrev pub invariant-loop-i : goal.invariant-loop-i
invariant-loop-i l = l.from ≤ l.i

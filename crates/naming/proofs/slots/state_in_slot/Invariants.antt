-- `naming::slots::state_in_slot` meets its contract: the states in the slot before `next` were tried.
use Prim.Native.Nat.{◌-◌}
use Rattle.std.specs.Option.{unwrap_or}
use Rattle.naming.proofs.Slotting.{SlotTried}
use Rattle.naming.proofs.slots.state_in_slot.Given as goal

abbrev pub invariant-loop-next : goal.invariant-loop-next
invariant-loop-next l = SlotTried l.sought.table.now l.sought.setting.now l.sought.marks.now l.sought.names.now l.sought.j l.z l.next

abbrev pub decreases-loop-next : goal.decreases-loop-next
decreases-loop-next l = l.sought.setting.now.count - unwrap_or l.next l.sought.setting.now.count

use native.Mathlib.Omega.{arith}
use Rattle.alike.proofs.slots.frame_slot_of.Goals as goal

pub parent_slot-requires : goal.parent_slot-requires
parent_slot-requires c = record { shaped = c.requires.shaped; i_lt_m = omega arith }

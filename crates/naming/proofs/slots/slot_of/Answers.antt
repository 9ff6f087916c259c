-- `naming::slots::slot_of` meets its contract: the frame's slot if there is one, else that of a use.
use Rattle.std.proofs.lemmas.Option.{IfSome_then}
use Rattle.uses.proofs.Both.{shaped-nodes}
use Rattle.naming.proofs.Slotting.{frame-slotted, use-slotted}
use Rattle.naming.proofs.slots.slot_of.Goals as goal

pub frame_slot_of-requires : goal.frame_slot_of-requires
frame_slot_of-requires c = record {
  shaped = c.args.sought.now.setting.now.shaped;
  to_le_m = c.args.sought.now.parents_within.known;
}

pub returns-in-Some : goal.returns-in-Some
returns-in-Some c = record {
  place_lt_max_arity = c.in-Some.ensures.place;
  states_slotted = λ A t ts S N holds X. frame-slotted holds c.args.sought.now.setting.now.searchable X c.in-Some.ensures;
}

pub invariant_of-used : goal.invariant_of-used
invariant_of-used c = record {
  searchable = c.args.sought.now.setting.now.searchable;
  over = c.args.sought.now.setting.now.over;
  nodes = shaped-nodes c.args.sought.now.setting.now.shaped;
}

pub use_slot-requires : goal.use_slot-requires
use_slot-requires c =
    record {
      le_j = c.args.sought.now.le_j;
      j_le_m = c.args.sought.now.j_le_m;
      parents_within = c.args.sought.now.parents_within;
    }

pub returns : goal.returns
returns c = record {
  place_lt_max_arity = c.use_slot.ensures.place_lt_max_arity;
  states_slotted = λ A t ts S N holds X. IfSome_then c.use_slot.result (c.use_slot.ensures.slot_takes A t ts holds)
      (λ z takes. use-slotted holds takes);
}

-- `naming::seeking::other_state` meets its contract: every candidate must fit the slot; without a slot all states are
-- tried.
use Rattle.naming.proofs.seeking.other_state.Goals as goal

pub state_in_slot-requires : goal.state_in_slot-requires
state_in_slot-requires c = record {
  place_lt_max_arity = c.in-Some.ensures.place_lt_max_arity;
}

pub returns-in-Some : goal.returns-in-Some
returns-in-Some c = record {
  upper_bound = c.state_in_slot.ensures.upper_bound;
  state_sought = λ A t ts S N K O X. c.state_in_slot.ensures.state_sought A t ts S N K O X
      (c.in-Some.ensures.states_slotted A t ts S N K.holds X);
}

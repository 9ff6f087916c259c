use mathlib.Core.Path.{ap, subst}
use Prim.Native.Nat.{ℕ}
use native.Mathlib.Omega.{arith}
use Rattle.std.specs.Option.{unwrap_or}
use Rattle.naming.specs.Choice.{StateTried}
use Rattle.naming.proofs.Slotting.{NoneSlotted, later-less, none_first, none_left, none-next, place-state}
use Rattle.naming.proofs.slots.state_in_slot.Goals as goal

pub first_in_slot-next-requires : goal.first_in_slot-next-requires
first_in_slot-next-requires c = record {
  searchable = c.args.sought.now.setting.now.searchable;
  place_lt_max_arity = c.requires.place_lt_max_arity;
}

pub loop-next-init : goal.loop-next-init
loop-next-init c = record {
  here = λ i e. (c.first_in_slot-next.ensures.here i e).1;
  each = λ A t ts S N K O X. none_first (λ x h. c.first_in_slot-next.ensures.others x (omega arith) h);
}

pub overflow_mul-i : goal.overflow_mul-i
overflow_mul-i c =
    omega (arith, c.args.sought.now.setting.now.over.runs.few, c.loop-next.invariant.here _ c.in-Some.is)

pub arg_of-q-requires : goal.arg_of-q-requires
arg_of-q-requires c = record {
  transition_bytes_in_bounds = omega (
    arith,
    c.args.sought.now.setting.now.over.runs.inside,
    c.loop-next.invariant.here _ c.in-Some.is,
  );
  k_lt_max_arity = c.requires.place_lt_max_arity;
}

pub fits_state-requires : goal.fits_state-requires
fits_state-requires c =
    let here = c.in-Some.i in
    record {
      q_le_n = omega (
        arith,
        c.arg_of-q.ensures.value,
        place-state c.args.sought.now.setting.now.searchable c.args.sought.now.setting.now.over here c.args.z.place
            (c.loop-next.invariant.here _ c.in-Some.is) c.requires.place_lt_max_arity,
      );
    }

pub returns-then-fits_state : goal.returns-then-fits_state
returns-then-fits_state c = record {
  upper_bound = omega (
    arith,
    c.arg_of-q.ensures.value,
    place-state c.args.sought.now.setting.now.searchable c.args.sought.now.setting.now.over c.in-Some.i c.args.z.place
        (c.loop-next.invariant.here _ c.in-Some.is) c.requires.place_lt_max_arity,
  );
  state_sought = λ A t ts S N K O X Z. (c.fits_state.ensures A t ts S N K O X).yes c.if-fits_state.true;
}

pub overflow_add-i : goal.overflow_add-i
overflow_add-i c =
    omega (arith, c.args.sought.now.setting.now.over.runs.few, c.loop-next.invariant.here _ c.in-Some.is)

pub next_in_slot-next-requires : goal.next_in_slot-next-requires
next_in_slot-next-requires c = record {
  searchable = c.args.sought.now.setting.now.searchable;
  place_lt_max_arity = c.requires.place_lt_max_arity;
}

pub loop-next-smaller : goal.loop-next-smaller
loop-next-smaller c =
    let inside = c.loop-next.invariant.here _ c.in-Some.is in
    later-less inside c.in-Some.is (λ i e. (c.next_in_slot-next.ensures.here i e).0)

pub loop-next-preserved : goal.loop-next-preserved
loop-next-preserved c =
    let now = c.loop-next in
    let here = ap (λ o. unwrap_or o c.args.sought.now.setting.now.count) c.in-Some.is in
    record {
      here = λ i e. (c.next_in_slot-next.ensures.here i e).1;
      each = λ A t ts S N K O X. none-next
          (subst (λ (i : ℕ). NoneSlotted A t S ts c.args.sought.now.setting.now.transitions.now N c.args.sought.now.j c.args.z i) here
          (now.invariant.each A t ts S N K O X)) c.arg_of-q.ensures.value
          (subst (StateTried A t S ts N c.args.sought.now.j c.arg_of-q.result) c.if-fits_state.false
          (c.fits_state.ensures A t ts S N K O X)) c.next_in_slot-next.ensures.others;
    }

pub returns : goal.returns
returns c = let end = ap (λ o. unwrap_or o c.args.sought.now.setting.now.count) c.in_default.is in
    record {
      upper_bound = tt;
      state_sought = λ A t ts S N K O X Z. none_left Z (c.loop-next.invariant.each A t ts S N K O X) (omega (arith, end));
    }

use native.Mathlib.Omega.{arith}
use Rattle.uses.proofs.using.transition_slot.Goals as goal

pub place_slot-requires : goal.place_slot-requires
place_slot-requires c = record {
  framed = c.requires.framed;
  i_lt_count = c.requires.i_lt_count;
  k_bound = omega (
    arith,
    c.arity_of-arity.ensures,
    c.loop-k-test.true,
  );
}

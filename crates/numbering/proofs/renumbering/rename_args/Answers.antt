use native.Mathlib.Omega.{arith}
use Rattle.packed.proofs.Zeros.{digits-room}
use Rattle.numbering.proofs.Numbers.{renamed-next}
use Rattle.numbering.proofs.renumbering.rename_args.Goals as goal

pub with_number-next-requires : goal.with_number-next-requires
with_number-next-requires c =
    let l = c.loop-k in
    let more = c.loop-k-test.true in
    record {
      k_lt_max_arity = omega arith;
      v_bound = digits-room l.k l.v (omega arith) l.invariant.below;
    }

pub loop-k-preserved : goal.loop-k-preserved
loop-k-preserved c =
    renamed-next c.loop-k.invariant c.loop-k-test.true c.with_number-next.ensures.value
    c.with_number-next.ensures.upper_bound

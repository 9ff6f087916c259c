use native.Mathlib.Omega.{arith}
use Rattle.partition.proofs.Filling.{mated-end, mated-next, mated-start}
use Rattle.partition.proofs.repairing.mated_states.Goals as goal

pub loop-q-init : goal.loop-q-init
loop-q-init c = mated-start c.args.parts.now

pub note_mate-requires : goal.note_mate-requires
note_mate-requires c = record {
  mated_len = c.loop-q.invariant.size;
  q_bound = omega (arith, c.requires.few);
  q_bound_2 = c.requires.below c.loop-q.q (omega arith);
}

pub loop-q-preserved : goal.loop-q-preserved
loop-q-preserved c = mated-next c.loop-q.invariant c.note_mate.ensures

pub returns : goal.returns
returns c = mated-end c.requires c.loop-q.invariant (omega arith)

use Rattle.std.proofs.Common.{rules, arith, refl}
use Rattle.bench.specs.Turns.{MetAll}
use Rattle.bench.proofs.Meeting.{meeting-ended, meeting-idle, meeting-met, meeting-next}
use Rattle.bench.proofs.Meeting.{meeting-start}
use Rattle.bench.proofs.read_all.Goals as goal

pub loop-done-init : goal.loop-done-init
loop-done-init c = (
  meeting-start _ _ _ _ _ _ c.begin-w.ensures (omega arith) c.requires.line_len c.requires.table_value c.requires.scratch_value c.requires.out_len,
  refl,
  refl,
  refl,
)

pub read_some-requires : goal.read_some-requires
read_some-requires c = record {
  buffered = c.loop-done.invariant.0.ready;
  idle = meeting-idle c.loop-done.invariant.0 (omega arith);
  chunk_len = search rules;
}

pub loop-done-preserved : goal.loop-done-preserved
loop-done-preserved c = (
  meeting-next c.loop-done.invariant.0 _ _ _ _ _ _ _ _ c.in_ok-next.ensures _ c.in-Continue.is (omega arith) (search rules),
  search rules,
  search rules,
  search rules,
)

pub returns-in_err-next : goal.returns-in_err-next
unfolding MetAll
returns-in_err-next c = search rules

pub returns-in-Break : goal.returns-in-Break
returns-in-Break c = meeting-ended c.loop-done.invariant.0 _ _ _ _ _ _ _ _ c.in_ok-next.ensures c.in-Break.is

pub returns : goal.returns
unfolding MetAll
returns c = meeting-met c.loop-done.invariant.0

use Rattle.std.proofs.Common.{◌-◌, refl, arith}
use Rattle.lists.proofs.Loops.{every-broken, every-end, every-next, every-start}
use Rattle.marking.proofs.Sweeps.{nonzero-false, nonzero-true}
use Rattle.validity.proofs.marks.all_marked.Goals as goal

pub loop-q-init : goal.loop-q-init
loop-q-init c = every-start (c.args.end - c.args.from) refl

pub returns-then-marks-q-eq0 : goal.returns-then-marks-q-eq0
returns-then-marks-q-eq0 c = every-broken c.loop-q.invariant (omega arith) (nonzero-false _ c.if-marks-q-eq0.true)

pub loop-q-preserved : goal.loop-q-preserved
loop-q-preserved c =
    every-next c.loop-q.invariant (omega arith) (nonzero-true _ c.if-marks-q-eq0.false)

pub returns : goal.returns
returns c = every-end c.loop-q.invariant (omega arith)

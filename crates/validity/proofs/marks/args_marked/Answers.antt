use Rattle.std.proofs.Common.{refl, arith}
use Rattle.marking.specs.Marks.{marked}
use Rattle.fields.proofs.Transitions.{args-every}
use Rattle.lists.proofs.Loops.{every-broken, every-end, every-next}
use Rattle.marking.proofs.Sweeps.{nonzero-false, nonzero-true}
use Rattle.validity.proofs.marks.args_marked.Goals as goal

pub loop-k-init : goal.loop-k-init
loop-k-init c =
    (c.arity_of-arity.ensures, args-every (marked c.args.marks.now) c.args.transitions.now c.args.at refl)

pub returns-then-marks-q-eq0 : goal.returns-then-marks-q-eq0
returns-then-marks-q-eq0 c =
    every-broken c.loop-k.invariant.1 (omega arith)
    (nonzero-false _ (rw c.arg_of-q.ensures.value at c.if-marks-q-eq0.true))

pub loop-k-preserved : goal.loop-k-preserved
loop-k-preserved c =
    let now = c.loop-k in (
      now.invariant.0,
      every-next now.invariant.1 (omega arith)
          (nonzero-true _ (rw c.arg_of-q.ensures.value at c.if-marks-q-eq0.false)),
    )

pub returns : goal.returns
returns c = every-end c.loop-k.invariant.1 (omega arith)

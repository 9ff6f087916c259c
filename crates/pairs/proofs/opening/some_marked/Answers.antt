use native.Mathlib.Omega.{arith}
use Rattle.marking.specs.Marks.{marked}
use Rattle.lists.proofs.Loops.{any-end, any_found, any_next}
use Rattle.marking.proofs.Sweeps.{nonzero-false, nonzero-true}
use Rattle.pairs.proofs.Marking.{args-any}
use Rattle.pairs.proofs.opening.some_marked.Goals as goal

pub loop-k-init : goal.loop-k-init
loop-k-init c =
    (c.arity_of-arity.ensures, args-any (marked c.args.marks.now) c.args.transitions.now c.args.at)

pub returns-then-marks-q-ne0 : goal.returns-then-marks-q-ne0
returns-then-marks-q-ne0 c =
    any_found c.loop-k.invariant.1 (omega arith)
    (nonzero-true _ (rw c.arg_of-q.ensures.value at c.if-marks-q-ne0.true))

pub loop-k-preserved : goal.loop-k-preserved
loop-k-preserved c =
    let now = c.loop-k in (
      now.invariant.0,
      any_next now.invariant.1 (omega arith)
          (nonzero-false _ (rw c.arg_of-q.ensures.value at c.if-marks-q-ne0.false)),
    )

pub returns : goal.returns
returns c = any-end c.loop-k.invariant.1 (omega arith)

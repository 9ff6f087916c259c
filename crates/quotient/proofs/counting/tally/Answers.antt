use native.Mathlib.Omega.{arith}
use mathlib.Core.Path.{ap}
use Prim.Native.Nat.{◌-◌}
use Rattle.lists.specs.Tests.{bit}
use Rattle.quotient.proofs.Tallies.{tally-next, tally-start}
use Rattle.quotient.proofs.counting.tally.Goals as goal
use Rattle.quotient.proofs.counting.tally.Goals.{then-passes, else-passes}

pub loop-x-init : goal.loop-x-init
loop-x-init g c = (omega arith, λ p h. tally-start (c.args.end - c.args.start) (omega arith))

pub loop-x-preserved : goal.loop-x-preserved
loop-x-preserved g c =
    let loop = c.loop-x in
    elim c.if-passes.branch [
      | then-passes w ↦ (
        omega (arith, w.sum-is, loop.invariant.0),
        λ p h. tally-next (loop.invariant.1 p h) (omega (arith, c.loop-x-test.true))
            (h loop.x (omega (arith, c.loop-x-test.true)) c.passes.result c.passes.ensures)
            (omega (arith, w.sum-is, ap bit w.if-passes.true)),
      )
      | else-passes w ↦ (
        omega (arith, w.sum-is, loop.invariant.0),
        λ p h. tally-next (loop.invariant.1 p h) (omega (arith, c.loop-x-test.true))
            (h loop.x (omega (arith, c.loop-x-test.true)) c.passes.result c.passes.ensures)
            (omega (arith, w.sum-is, ap bit w.if-passes.false)),
      )
    ]

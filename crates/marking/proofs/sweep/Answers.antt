use Rattle.std.proofs.Common.{◌≡◌, refl, arith}
use Rattle.marking.proofs.Stepping.{steps-next}
use Rattle.marking.proofs.sweep.Goals as goal

pub step-changed-requires : goal.step-changed-requires
step-changed-requires g c = c.requires c.loop-i.i _ c.loop-i.changed c.loop-i-test.true c.loop-i.invariant

pub loop-i-preserved : goal.loop-i-preserved
loop-i-preserved g c =
    steps-next _ c.loop-i.i _ _ _ c.loop-i.changed c.step-changed.result c.loop-i.invariant
    (record { shown = _; left = _; met = c.step-changed.ensures; shows = refl; leaves = refl })

pub returns : goal.returns
returns g c = let e : c.loop-i.i ≡ c.args.n = omega arith in rw e at c.loop-i.invariant

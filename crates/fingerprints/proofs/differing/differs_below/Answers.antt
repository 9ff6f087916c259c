use Rattle.std.proofs.Common.{◌-◌, refl, arith}
use Rattle.lists.proofs.Loops.{clean_end, clean-next, clean-start}
use Rattle.fingerprints.proofs.differing.differs_below.Goals as goal

pub loop-p-init : goal.loop-p-init
loop-p-init c = (refl, clean-start (c.args.q - 1) (omega (arith, c.requires.le_q)))

pub loop-p-preserved : goal.loop-p-preserved
loop-p-preserved c =
    (c.loop-p.invariant.0, clean-next c.loop-p.invariant.1 (omega arith) refl)

pub returns : goal.returns
returns c = clean_end c.loop-p.invariant.1 (omega arith)

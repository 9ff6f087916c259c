-- `validity::marks::mark` meets its contract: the state has its mark, or gets it.
use Rattle.std.proofs.Common.{arith}
use Rattle.marking.proofs.Sweeps.{nonzero-false, nonzero-true}
use Rattle.marking.proofs.Spreading.{spread-mark, spread_none}
use Rattle.validity.proofs.marks.mark.Goals as goal

pub returns-then-marks-q-ne0 : goal.returns-then-marks-q-ne0
returns-then-marks-q-ne0 c = spread_none (nonzero-true _ c.if-marks-q-ne0.true)

pub returns : goal.returns
returns c =
    spread-mark c.args.q (omega arith) (nonzero-false _ c.if-marks-q-ne0.false) (λ p e w. e)

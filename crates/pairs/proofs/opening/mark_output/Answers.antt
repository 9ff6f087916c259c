-- `pairs::opening::mark_output` meets its contract: the output is marked already, or no argument is marked, or the
-- output gets its mark.
use mathlib.Core.Bool.{true≢false}
use mathlib.Core.Path.{◌∙◌, sym}
use native.Mathlib.Omega.{arith}
use Rattle.marking.proofs.Sweeps.{nonzero-false, nonzero-true}
use Rattle.marking.proofs.Spreading.{spread_none}
use Rattle.pairs.proofs.Marking.{spread-some}
use Rattle.pairs.proofs.opening.mark_output.Goals as goal

pub returns-then-marks-out-ne0 : goal.returns-then-marks-out-ne0
returns-then-marks-out-ne0 c = spread_none (λ _. nonzero-true _ (rw c.out_of-out.ensures.value at c.if-marks-out-ne0.true))

pub returns-then-not-some_marked : goal.returns-then-not-some_marked
returns-then-not-some_marked c =
    spread_none
    (λ e. absurd (true≢false (sym e ∙ sym c.some_marked.ensures ∙ c.if-not-some_marked.true)))

pub returns : goal.returns
returns c =
    let o = c.out_of-out.ensures.value in
    let new = nonzero-false _ (rw o at c.if-marks-out-ne0.false) in
    rw o
    (spread-some c.args.transitions.now c.args.at c.args.marks.now c.requires.marks_len
    (omega (arith, o)) new (sym c.some_marked.ensures ∙ c.if-not-some_marked.false))

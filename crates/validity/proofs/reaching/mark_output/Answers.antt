-- `validity::reaching::mark_output` meets its contract: the output has its mark, lacks an argument, or gets its mark.
use Rattle.std.proofs.Common.{sym, ◌∙◌, true≢false, arith}
use Rattle.marking.proofs.Sweeps.{nonzero-false, nonzero-true}
use Rattle.marking.proofs.Spreading.{spread_none}
use Rattle.validity.proofs.Sweeping.{spread-up}
use Rattle.validity.proofs.reaching.mark_output.Goals as goal

pub returns-then-marks-out-ne0 : goal.returns-then-marks-out-ne0
returns-then-marks-out-ne0 c = spread_none (λ _. nonzero-true _ (rw c.out_of-out.ensures.value at c.if-marks-out-ne0.true))

pub returns-then-not-args_marked : goal.returns-then-not-args_marked
returns-then-not-args_marked c =
    spread_none
    (λ e. absurd (true≢false (sym e ∙ sym c.args_marked.ensures ∙ c.if-not-args_marked.true)))

pub returns : goal.returns
returns c =
    let o = c.out_of-out.ensures.value in
    let new = nonzero-false _ (rw o at c.if-marks-out-ne0.false) in
    rw o
    (spread-up c.args.transitions.now c.args.at c.args.marks.now c.requires.marks_len
    (omega (arith, o)) new (sym c.args_marked.ensures ∙ c.if-not-args_marked.false))

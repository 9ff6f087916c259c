-- `validity::usefulness::use_transition` meets its contract: an output without a mark asks nothing.
use Rattle.std.proofs.Common.{sym, ◌∙◌, true≢false}
use Rattle.marking.proofs.Sweeps.{nonzero-false, nonzero-true}
use Rattle.marking.proofs.Spreading.{spread_none}
use Rattle.validity.proofs.usefulness.use_transition.Goals as goal

pub returns-then-marks-out-eq0 : goal.returns-then-marks-out-eq0
returns-then-marks-out-eq0 c =
    spread_none (λ k h e. absurd
    (true≢false (sym e ∙ nonzero-false _ (rw c.out_of-out.ensures.value at c.if-marks-out-eq0.true))))

pub use_args-requires : goal.use_args-requires
use_args-requires c = record {
  readable = c.requires.readable;
  marks_len = c.requires.marks_len;
  at_value = nonzero-true _ (rw c.out_of-out.ensures.value at c.if-marks-out-eq0.false);
}

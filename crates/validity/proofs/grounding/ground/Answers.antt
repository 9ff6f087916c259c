-- `validity::grounding::ground` meets its contract: the state is blocked, has its mark, or gets it.
use Rattle.std.proofs.Common.{sym, ◌∙◌, true≢false}
use Rattle.marking.proofs.Sweeps.{nonzero-false, nonzero-true}
use Rattle.marking.proofs.Spreading.{spread-if, spread_none}
use Rattle.validity.proofs.grounding.ground.Goals as goal

pub returns-then-blocked-k-ne0 : goal.returns-then-blocked-k-ne0
returns-then-blocked-k-ne0 c = spread_none (λ e. absurd (true≢false (sym (nonzero-true _ c.if-blocked-k-ne0.true) ∙ e)))

pub returns : goal.returns
returns c = spread-if (λ p w d. d (nonzero-false _ c.if-blocked-k-ne0.false)) (λ h e. h) c.mark.ensures

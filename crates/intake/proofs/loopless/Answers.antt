-- `intake::loopless` meets its contract: outputs above their arguments, or ranks, show that there is no loop.
use mathlib.Core.Path.{sym}
use Rattle.validity.proofs.Rising.{climbing-acyclic}
use Rattle.intake.proofs.loopless.Goals as goal

pub returns-then-above : goal.returns-then-above
returns-then-above c =
    λ _ cl. sym (climbing-acyclic c.args.transitions.now c.args.n c.args.count c.requires.holds_transitions_over
    (c.requires.count_value c.if-above.true) cl)

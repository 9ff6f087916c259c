-- `intake::reached` meets its contract: states numbered by the rule are accessible.
use mathlib.Core.Path.{◌∙◌, sym}
use Rattle.intake.proofs.Checks.{numbered-reached}
use Rattle.intake.proofs.reached.Goals as goal

pub returns-then-in_order : goal.returns-then-in_order
returns-then-in_order c cl =
    numbered-reached cl c.args.transitions.now c.args.n c.args.count c.requires.holds_transitions_over
    (sym c.requires.in_order_value ∙ c.if-in_order.true)

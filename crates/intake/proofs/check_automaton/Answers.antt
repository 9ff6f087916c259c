-- `intake::check_automaton` meets its contract: numbered, without loops and settled, or searched.
use Rattle.intake.proofs.Checks.{passes}
use Rattle.intake.proofs.check_automaton.Goals as goal

pub returns-then-settled : goal.returns-then-settled
returns-then-settled c =
    passes c.args.classes.now c.args.transitions.now c.args.n c.args.count
    c.requires.viewed.over (c.ruled-rule.ensures.by_index c.args.classes.now) c.if-rule.true
    (c.loopless.ensures c.if-loopless.true c.args.classes.now)
    (c.settled.ensures c.if-settled.true)

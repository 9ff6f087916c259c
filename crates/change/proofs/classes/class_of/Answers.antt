-- `change::classes::class_of` meets its contract: the own class is given, every other is that of the state.
use mathlib.Core.Path.{◌∙◌}
use Rattle.change.proofs.Classing.{class-own, class-none, class-some}
use Rattle.change.proofs.classes.class_of.Goals as goal

pub returns-then-p-own : goal.returns-then-p-own
returns-then-p-own c =
    class-own c.args.table.now c.args.n c.args.states.now c.args.own
    c.args.inserting c.args.p c.if-p-own.true c.own_class.ensures

pub returns-then-q-eq0 : goal.returns-then-q-eq0
returns-then-q-eq0 c =
    class-none c.args.table.now c.args.n c.args.states.now c.args.own
    c.args.inserting c.args.p c.if-p-own.false (c.from-q.ensures ∙ c.state_of.ensures) c.if-q-eq0.true

pub returns : goal.returns
returns c =
    class-some c.args.table.now c.args.n c.args.states.now c.args.own
    c.args.inserting c.args.p c.if-p-own.false (c.from-q.ensures ∙ c.state_of.ensures) c.if-q-eq0.false

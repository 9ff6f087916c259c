-- `alike::classed::same_class` meets its contract, by cases of the first class.
use Rattle.alike.proofs.Criterion.{class-other, class-set, class-unset}
use Rattle.alike.proofs.classed.same_class.Goals as goal

pub returns-then-a-eq1 : goal.returns-then-a-eq1
returns-then-a-eq1 c = class-set c.args.a c.args.b c.if-a-eq1.true

pub returns : goal.returns
returns c =
    class-other c.args.a c.args.b c.if-a-eq1.false (class-unset c.args.b)

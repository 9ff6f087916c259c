-- `naming::classes::class_of` meets its contract: the tree's own class is given, every other is that of the state.
use Rattle.naming.proofs.Classing.{class-other, class-own}
use Rattle.naming.proofs.classes.class_of.Goals as goal

pub returns-then-j-root : goal.returns-then-j-root
returns-then-j-root c =
    class-own c.args.table.now c.args.states.now c.args.root c.args.inserting c.args.j c.if-j-root.true c.own_class.ensures

pub returns : goal.returns
returns c =
    class-other c.args.table.now c.args.states.now c.args.root c.args.inserting
    c.args.j c.if-j-root.false c.from.ensures c.class_in.ensures

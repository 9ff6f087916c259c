-- `minimize::number::precedes_by` meets its contract: arities, labels, arguments, in this order.
use Rattle.minimize.proofs.Arguments.{precedes-by-args, precedes-by-arity, precedes-by-label}
use Rattle.minimize.proofs.number.precedes_by.Goals as goal

pub returns-then-n-m : goal.returns-then-n-m
returns-then-n-m c =
    precedes-by-arity c.args.numbers.now c.args.transitions.now c.args.a c.args.b c.arity_of-n.ensures c.arity_of-m.ensures c.if-n-m.true

pub returns-then-first-second : goal.returns-then-first-second
returns-then-first-second c =
    precedes-by-label c.args.numbers.now c.args.transitions.now c.args.a c.args.b c.arity_of-n.ensures c.arity_of-m.ensures c.if-n-m.false c.label_of-first.ensures.value c.label_of-second.ensures.value c.if-first-second.true

pub returns : goal.returns
returns c =
    precedes-by-args c.args.numbers.now c.args.transitions.now c.args.a c.args.b c.arity_of-n.ensures c.arity_of-m.ensures c.if-n-m.false c.label_of-first.ensures.value c.label_of-second.ensures.value c.if-first-second.false c.args_precede.ensures

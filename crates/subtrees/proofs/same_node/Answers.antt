-- A node that is not the same differs in its label, its number of children or a child.
use Rattle.subtrees.proofs.Arrays.{by-children, other-arity, other-label}
use Rattle.subtrees.proofs.same_node.Goals as goal

pub returns-then-subtrees-j : goal.returns-then-subtrees-j
returns-then-subtrees-j c =
    other-label c.args.subtrees.now.labels c.args.subtrees.now.arities c.args.subtrees.now.children c.args.label c.args.arity c.args.numbers c.args.j
    c.if-subtrees-j.true

pub returns-then-subtrees-j-2 : goal.returns-then-subtrees-j-2
returns-then-subtrees-j-2 c =
    other-arity c.args.subtrees.now.labels c.args.subtrees.now.arities c.args.subtrees.now.children c.args.label c.args.arity c.args.numbers c.args.j
    c.if-subtrees-j.false c.if-subtrees-j-2.true

pub returns : goal.returns
returns c =
    by-children c.args.subtrees.now.labels c.args.subtrees.now.arities c.args.subtrees.now.children c.args.label c.args.arity c.args.numbers c.args.j _ _
    c.if-subtrees-j.false c.if-subtrees-j-2.false c.from.ensures
    c.same_children.ensures

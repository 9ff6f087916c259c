-- If two nodes are no twins, they differ in child k, the label, the number of children or another child.
use mathlib.Core.Path.{◌∙◌, ap}
use Prim.Native.Nat.{ℕ}
use Rattle.lists.specs.Positions.{up_from}
use Rattle.lists.specs.Tests.{every}
use Rattle.uses.specs.Frames.{same_child}
use Rattle.uses.proofs.Nodes.{by-children, other-arity, other-child, other-label}
use Rattle.uses.proofs.frames.is_twin.Goals as goal

pub returns-then-subtrees-h : goal.returns-then-subtrees-h
returns-then-subtrees-h c =
    other-child c.args.subtrees.now.labels c.args.subtrees.now.arities c.args.subtrees.now.children c.args.j c.args.k c.args.i c.args.h c.if-subtrees-h.true

pub returns-then-subtrees-h-2 : goal.returns-then-subtrees-h-2
returns-then-subtrees-h-2 c =
    other-label c.args.subtrees.now.labels c.args.subtrees.now.arities c.args.subtrees.now.children c.args.j c.args.k c.args.i c.args.h c.if-subtrees-h.false c.if-subtrees-h-2.true

pub returns-then-subtrees-h-3 : goal.returns-then-subtrees-h-3
returns-then-subtrees-h-3 c =
    other-arity c.args.subtrees.now.labels c.args.subtrees.now.arities c.args.subtrees.now.children c.args.j c.args.k c.args.i c.args.h c.if-subtrees-h.false c.if-subtrees-h-2.false c.if-subtrees-h-3.true

pub returns : goal.returns
returns c =
    by-children c.args.subtrees.now.labels c.args.subtrees.now.arities c.args.subtrees.now.children c.args.j c.args.k c.args.i c.args.h c.if-subtrees-h.false c.if-subtrees-h-2.false c.if-subtrees-h-3.false (c.same_children.ensures ∙ ap (λ (n : ℕ). every (same_child c.args.subtrees.now.children c.args.k c.args.i c.args.h) (up_from 0 n)) c.from.ensures)

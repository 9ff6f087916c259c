use native.Mathlib.Nat.{zero-add}
use native.Mathlib.Omega.{arith}
use Rattle.lists.proofs.Loops.{every-broken, every-end, every-next, every-start}
use mathlib.Core.Path.{◌∙◌, sym}
use Rattle.uses.proofs.frames.same_children.Goals as goal

pub loop-x-init : goal.loop-x-init
loop-x-init c = every-start c.args.arity (zero-add c.args.arity)

pub returns-then-not-same_child : goal.returns-then-not-same_child
returns-then-not-same_child c =
    every-broken c.loop-x.invariant (omega arith) (sym c.same_child.ensures ∙ c.if-not-same_child.true)

pub loop-x-preserved : goal.loop-x-preserved
loop-x-preserved c =
    every-next c.loop-x.invariant (omega arith) (sym c.same_child.ensures ∙ c.if-not-same_child.false)

pub returns : goal.returns
returns c = every-end c.loop-x.invariant (omega arith)

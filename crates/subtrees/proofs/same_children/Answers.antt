use borrow.Author.Tests.{eq-eqb, ne_eqb}
use native.Mathlib.Nat.{zero-add}
use native.Mathlib.Omega.{arith}
use Rattle.lists.proofs.Loops.{every-broken, every-end, every-next, every-start}
use Rattle.subtrees.proofs.same_children.Goals as goal

pub loop-k-init : goal.loop-k-init
loop-k-init c = every-start c.args.arity (zero-add c.args.arity)

pub returns-then-children-j : goal.returns-then-children-j
returns-then-children-j c = every-broken c.loop-k.invariant (omega arith) (ne_eqb _ _ c.if-children-j.true)

pub loop-k-preserved : goal.loop-k-preserved
loop-k-preserved c = every-next c.loop-k.invariant (omega arith) (eq-eqb _ _ c.if-children-j.false)

pub returns : goal.returns
returns c = every-end c.loop-k.invariant (omega arith)

use Rattle.std.proofs.Common.{arith}
use Rattle.text.proofs.Heads.{agreed-apart, agreed-end, agreed-next, agreed-start}
use Rattle.text.proofs.agreeing.Goals as goal

pub loop-i-init : goal.loop-i-init
loop-i-init c = agreed-start _ _

pub returns-then-s-i : goal.returns-then-s-i
returns-then-s-i c =
    agreed-apart _ _ _ c.loop-i.invariant (omega arith) (omega arith)
    c.if-s-i.true

pub loop-i-preserved : goal.loop-i-preserved
loop-i-preserved c =
    agreed-next _ _ _ c.loop-i.invariant (omega arith) (omega arith)
    c.if-s-i.false

pub returns : goal.returns
returns c = agreed-end _ _ _ c.loop-i.invariant _ c.min-len.ensures c.loop-i-test.false

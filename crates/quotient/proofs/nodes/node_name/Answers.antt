use native.Mathlib.Omega.{arith}
use Rattle.quotient.proofs.NodeNames.{named_end, named-found, named-next, named_start}
use Rattle.quotient.proofs.nodes.node_name.Goals as goal

pub loop-j-init : goal.loop-j-init
loop-j-init c = named_start

pub returns-then-same : goal.returns-then-same
returns-then-same c =
    named-found c.loop-j.invariant (omega arith) c.if-same.true

pub loop-j-preserved : goal.loop-j-preserved
loop-j-preserved c = named-next c.loop-j.invariant (omega arith) c.if-same.false

pub returns : goal.returns
returns c = named_end c.loop-j.invariant (omega arith)

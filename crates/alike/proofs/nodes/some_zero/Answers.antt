use native.Mathlib.Omega.{arith}
use borrow.Author.Count.{below_more}
use Rattle.alike.proofs.NodeNames.{zero-nowhere, zero-there}
use Rattle.alike.proofs.nodes.some_zero.Goals as goal

pub loop-k-init : goal.loop-k-init
loop-k-init c = (omega arith, λ i h. absurd (omega arith))

pub returns-then-qs-k-eq0 : goal.returns-then-qs-k-eq0
returns-then-qs-k-eq0 c =
    zero-there c.args.qs c.args.arity c.loop-k.k (omega (arith, c.well_formed)) (omega arith) c.if-qs-k-eq0.true

pub loop-k-preserved : goal.loop-k-preserved
loop-k-preserved c = (omega arith, below_more _ _ c.loop-k.invariant.1 c.if-qs-k-eq0.false)

pub returns : goal.returns
returns c =
    zero-nowhere c.args.qs c.args.arity (λ i h. c.loop-k.invariant.1 i (omega arith))

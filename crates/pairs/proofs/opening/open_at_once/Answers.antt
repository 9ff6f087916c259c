use native.Mathlib.Omega.{arith}
use Rattle.pairs.proofs.Counting.{marked-end, marked_next, marked_start}
use Rattle.pairs.proofs.opening.open_at_once.Goals as goal

pub loop-q-init : goal.loop-q-init
loop-q-init c = (omega arith, marked_start c.requires)

pub loop-q-preserved : goal.loop-q-preserved
loop-q-preserved c =
    let now = c.loop-q in
    (omega arith, marked_next now.invariant.1 (omega arith) c.opens.result c.opens.ensures)

pub returns : goal.returns
returns c = marked-end c.loop-q.invariant.1 (omega arith)

use native.Mathlib.Omega.{arith}
use Rattle.lists.proofs.Filling.{filled_next, filled-start}
use Rattle.pairs.proofs.Counting.{numbers-end}
use Rattle.pairs.proofs.weigh.Goals as goal

pub loop-q-init : goal.loop-q-init
loop-q-init c = filled-start c.requires.weights_len

pub weight-requires : goal.weight-requires
weight-requires c = c.requires.by_index c.loop-q.q (omega arith)

pub loop-q-preserved : goal.loop-q-preserved
loop-q-preserved c = filled_next c.loop-q.invariant (omega arith) c.weight.ensures

pub returns : goal.returns
returns c = numbers-end c.loop-q.invariant (omega arith)

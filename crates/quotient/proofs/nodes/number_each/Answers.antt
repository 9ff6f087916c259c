use native.Mathlib.Omega.{arith}
use Rattle.quotient.proofs.NodeNames.{each-end, each_next, each_start}
use Rattle.quotient.proofs.nodes.number_each.Goals as goal

pub loop-j-init : goal.loop-j-init
loop-j-init g c = λ f h. each_start c.requires.numbers_len

pub loop-j-preserved : goal.loop-j-preserved
loop-j-preserved g c = λ f h.
    each_next (c.loop-j.invariant f h) (omega (arith, c.requires.count_le_max_nodes, c.loop-j-test.true))
    (h c.loop-j.j (omega (arith, c.loop-j-test.true)) c.number.result c.number.ensures)

pub returns : goal.returns
returns g c = λ f h. each-end (c.loop-j.invariant f h) (omega (arith, c.loop-j-test.false))

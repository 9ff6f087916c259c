use native.Mathlib.Omega.{arith}
use Rattle.subtrees.proofs.Arrays.{filled-end, filled_next, filled-start}
use Rattle.alike.proofs.nodes.states_of.Goals as goal

pub loop-k-init : goal.loop-k-init
loop-k-init c = (omega arith, filled-start)

pub overflow_sub-qs : goal.overflow_sub-qs
overflow_sub-qs c =
    omega (arith, c.from-number.ensures, c.requires.some c.loop-k.k (omega arith))

pub bounds-states-number : goal.bounds-states-number
bounds-states-number c =
    omega (arith, c.from-number.ensures, c.requires.known c.loop-k.k (omega arith))

pub loop-k-preserved : goal.loop-k-preserved
loop-k-preserved c =
    (omega arith, rw c.from-number.ensures (filled_next c.loop-k.invariant.1 (omega arith)))

pub returns : goal.returns
returns c = filled-end c.loop-k.invariant.1 c.loop-k.invariant.0 (omega arith)

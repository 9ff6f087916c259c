use Prim.Native.Nat.{◌<◌}
use mathlib.Core.Path.{refl}
use native.Mathlib.Omega.{arith}
use Rattle.format.specs.Format.{byte_values}
use Rattle.pairs.proofs.Counting.{counted-end, counted_next, counted_start, few-with}
use Rattle.pairs.proofs.count_states.Goals as goal

pub loop-j-init : goal.loop-j-init
loop-j-init c = (omega arith, counted_start c.requires.counts_value)

pub bounds-counts-q : goal.bounds-counts-q
bounds-counts-q c = omega (arith, c.from-q.ensures, c.fits-states c.loop-j.j)

pub overflow_add-counts : goal.overflow_add-counts
overflow_add-counts c =
    let q = c.from-q.result in
    omega (
      arith,
      c.loop-j.invariant.1.each q (omega (arith, c.from-q.ensures, c.fits-states c.loop-j.j)),
      few-with c.args.states.now c.loop-j.j q,
      c.requires.m_le_max_nodes,
      c.loop-j-test.true,
    )

pub bounds-counts-q-in-loop-j : goal.bounds-counts-q-in-loop-j
bounds-counts-q-in-loop-j c = omega (arith, c.from-q.ensures, c.fits-states c.loop-j.j)

pub loop-j-preserved : goal.loop-j-preserved
loop-j-preserved c =
    let small : c.from-q.result < byte_values = omega (arith, c.from-q.ensures, c.fits-states c.loop-j.j) in
    (omega arith, counted_next c.loop-j.invariant.1 c.from-q.ensures small refl)

pub returns : goal.returns
returns c =
    let now = c.loop-j in counted-end now.invariant.1 (omega (arith, now.invariant.0, c.loop-j-test.false))

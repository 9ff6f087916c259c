use native.Mathlib.Omega.{arith}
use Rattle.change.proofs.Classing.{classed-end, classed-next, classed-start}
use Rattle.change.proofs.classes.classify_names.Goals as goal

pub loop-p-init : goal.loop-p-init
loop-p-init c = (omega arith, omega arith, classed-start c.requires.classes_len)

pub bounds-classes-p : goal.bounds-classes-p
bounds-classes-p c = omega (arith, c.loop-p.invariant.2.size)

pub loop-p-preserved : goal.loop-p-preserved
loop-p-preserved c = (
  omega arith,
  omega arith,
  classed-next c.loop-p.invariant.2 (omega arith) c.class_of.result c.class_of.ensures,
)

pub returns : goal.returns
returns c = classed-end c.loop-p.invariant.2 (omega arith)

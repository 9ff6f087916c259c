use native.Mathlib.Omega.{arith}
use Rattle.naming.proofs.Classing.{classed-changed, classed-next, classed-start}
use Rattle.naming.proofs.classes.classify.Goals as goal

pub loop-j-init : goal.loop-j-init
loop-j-init c = (omega arith, classed-start c.requires.classes_len)

pub bounds-classes-j : goal.bounds-classes-j
bounds-classes-j c =
    omega (arith, c.requires.m_le_max_nodes, c.loop-j.invariant.1.size, c.loop-j-test.true)

pub loop-j-preserved : goal.loop-j-preserved
loop-j-preserved c = (
  omega arith,
  classed-next c.loop-j.invariant.1 (omega (
    arith,
    c.requires,
    c.loop-j-test.true,
  )) c.class_of.result c.class_of.ensures,
)

pub returns : goal.returns
returns c =
    λ A t ts S l r c₁ h C R X. classed-changed c.args.inserting h C R X c.loop-j.invariant.1 (omega arith)

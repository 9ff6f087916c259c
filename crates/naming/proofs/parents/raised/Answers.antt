use mathlib.Core.Path.{◌∙◌, sym}
use native.Mathlib.Omega.{arith}
use Rattle.lists.proofs.Loops.{any-end, any_found, any_next}
use Rattle.naming.proofs.Spans.{raiser-child, parents-tested}
use Rattle.naming.proofs.parents.raised.Goals as goal

pub loop-i-init : goal.loop-i-init
loop-i-init c = (
  omega arith,
  parents-tested c.args.sought.now.setting.now.shaped c.args.sought.now.parents_within
      (raiser-child c.args.sought.now.setting.now.n c.args.sought.now.setting.now.subtrees.now.arities c.args.sought.now.setting.now.subtrees.now.children c.args.sought.now.names.now c.args.sought.now.j),
)

pub raises_child-requires : goal.raises_child-requires
raises_child-requires c = record {
  le_i = omega arith;
  i_le_m = omega (arith, c.args.sought.now.parents_within.known);
}

pub returns-then-raises_child : goal.returns-then-raises_child
returns-then-raises_child c =
    any_found c.loop-i.invariant.1 (omega (arith, c.loop-i.invariant.0))
    (sym c.raises_child.ensures ∙ c.if-raises_child.true)

pub loop-i-preserved : goal.loop-i-preserved
loop-i-preserved c = (
  omega arith,
  any_next c.loop-i.invariant.1 (omega (arith, c.loop-i.invariant.0))
      (sym c.raises_child.ensures ∙ c.if-raises_child.false),
)

pub returns : goal.returns
returns c = any-end c.loop-i.invariant.1 (omega (arith, c.loop-i.invariant.0))

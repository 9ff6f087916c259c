use mathlib.Core.Path.{◌∙◌, sym}
use Prim.Native.Nat.{◌-◌}
use native.Mathlib.Omega.{arith}
use lib.ListN.{get_or}
use borrow.Author.Tests.{eq-eqb, ne_eqb}
use Rattle.naming.specs.Parents.{is_child}
use Rattle.lists.proofs.Loops.{any-end, any_found, any_next, any-start}
use Rattle.naming.proofs.parents.is_child.Goals as goal

pub loop-k-init : goal.loop-k-init
unfolding is_child
loop-k-init c =
    (c.from-arity.ensures, any-start (get_or c.args.setting.now.subtrees.now.arities (c.args.i - 1) 0) (omega arith))

pub overflow_add-i : goal.overflow_add-i
overflow_add-i c =
    omega (
      arith,
      c.args.setting.now.shaped.few,
      c.args.setting.now.shaped.narrow (c.args.i - 1) (omega arith),
      c.loop-k-test.true,
      c.loop-k.invariant.0,
    )

pub bounds-setting-i-in-loop-k : goal.bounds-setting-i-in-loop-k
bounds-setting-i-in-loop-k c =
    omega (arith, c.args.setting.now.shaped.few, c.args.setting.now.shaped.narrow (c.args.i - 1) (omega arith))

pub returns-then-from-j : goal.returns-then-from-j
returns-then-from-j c =
    let now = c.loop-k in
    any_found now.invariant.1 (omega (arith, now.invariant.0, c.loop-k-test.true)) (eq-eqb _ _ (sym
    c.from.ensures ∙ c.if-from-j.true))

pub loop-k-preserved : goal.loop-k-preserved
loop-k-preserved c =
    let now = c.loop-k in (
      now.invariant.0,
      any_next now.invariant.1 (omega (arith, now.invariant.0, c.loop-k-test.true))
          (ne_eqb _ _ (λ e. c.if-from-j.false (c.from.ensures ∙ e))),
    )

pub returns : goal.returns
returns c =
    let now = c.loop-k in
    any-end now.invariant.1 (omega (arith, now.invariant.0, c.loop-k-test.false))

use mathlib.Core.Path.{◌∙◌, sym}
use mathlib.Core.Path.{◌≡◌}
use Prim.Native.Nat.{◌-◌}
use native.Mathlib.Omega.{arith}
use Rattle.fields.proofs.Searching.{rising-next}
use Rattle.lists.proofs.Loops.{every-broken, every-end, every-next, every-start}
use Rattle.packed.proofs.Order.{compares-next}
use Rattle.packed.proofs.rises.Goals as goal

pub returns-then-count-eq0 : goal.returns-then-count-eq0
returns-then-count-eq0 c =
    let e : c.args.count - 1 ≡ 0 = omega arith in
    sym (rising-next c.args.transitions.now c.args.count ∙ rw e)

pub loop-i-init : goal.loop-i-init
loop-i-init c =
    record {
      passed = every-start (c.args.count - 1) (omega arith);
      meta = c.meta_at-meta.ensures;
      args = c.args_at-args.ensures;
    }

pub returns-then-not-comes_before : goal.returns-then-not-comes_before
returns-then-not-comes_before c =
    let now = c.loop-i in
    let e = compares-next
    (λ j. omega (
      arith,
      c.type_inv.transitions j,
    )) c.requires now.invariant (omega arith) c.meta_at-next_meta.ensures
    c.args_at-next_args.ensures in
    every-broken now.invariant.passed (omega arith)
    (sym e ∙ sym c.comes_before.ensures ∙ c.if-not-comes_before.true)
    ∙ sym (rising-next c.args.transitions.now c.args.count)

pub loop-i-preserved : goal.loop-i-preserved
loop-i-preserved c =
    let now = c.loop-i in
    let e = compares-next
    (λ j. omega (
      arith,
      c.type_inv.transitions j,
    )) c.requires now.invariant (omega arith) c.meta_at-next_meta.ensures
    c.args_at-next_args.ensures in
    record {
      passed = every-next now.invariant.passed (omega arith)
          (sym e ∙ sym c.comes_before.ensures ∙ c.if-not-comes_before.false);
      meta = c.meta_at-next_meta.ensures;
      args = c.args_at-next_args.ensures;
    }

pub returns : goal.returns
returns c =
    every-end c.loop-i.invariant.passed (omega arith)
    ∙ sym (rising-next c.args.transitions.now c.args.count)

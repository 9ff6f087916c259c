use native.Mathlib.Omega.{arith}
use mathlib.Core.Path.{◌∙◌, ap₂}
use Prim.Native.Nat.{max, min}
use Rattle.uses.specs.Settings.{arrays_in}
use Rattle.uses.proofs.Spanning.{agrees-before, agrees-broken, agrees-next, agrees-past}
use Rattle.uses.proofs.scanning.transitions_agree.Goals as goal

pub loop-i-init : goal.loop-i-init
loop-i-init c =
    agrees-before (arrays_in c.args.setting.now c.args.frames) c.args.setting.now.transitions.now c.args.setting.now.count c.args.p c.args.q c.args.setting.now.uses
    (c.min-from.ensures ∙ ap₂ min c.entry.ensures c.entry-2.ensures)

pub unused_or_agrees-requires : goal.unused_or_agrees-requires
unused_or_agrees-requires c =
    let last = c.max-to.ensures ∙ ap₂ max c.entry-3.ensures c.entry-4.ensures in
    record {
      framed = c.requires.framed;
      i_lt_count = omega (arith, c.args.setting.now.uses.known c.args.p, c.args.setting.now.uses.known c.args.q, last, c.loop-i-test.true);
    }

pub returns-then-not-unused_or_agrees : goal.returns-then-not-unused_or_agrees
returns-then-not-unused_or_agrees c =
    let last = c.max-to.ensures ∙ ap₂ max c.entry-3.ensures c.entry-4.ensures in
    agrees-broken c.loop-i.invariant
    (omega (arith, c.args.setting.now.uses.known c.args.p, c.args.setting.now.uses.known c.args.q, last, c.loop-i-test.true))
    c.unused_or_agrees.ensures c.if-not-unused_or_agrees.true

pub loop-i-preserved : goal.loop-i-preserved
loop-i-preserved c =
    agrees-next c.loop-i.invariant c.unused_or_agrees.ensures
    c.if-not-unused_or_agrees.false

pub returns : goal.returns
returns c =
    let last = c.max-to.ensures ∙ ap₂ max c.entry-3.ensures c.entry-4.ensures in
    agrees-past (arrays_in c.args.setting.now c.args.frames) c.args.setting.now.transitions.now c.args.setting.now.count c.args.p c.args.q c.args.setting.now.uses c.loop-i.invariant last
    c.loop-i-test.false

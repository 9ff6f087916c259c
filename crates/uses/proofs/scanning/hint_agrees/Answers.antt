-- If the transition of the hint does not agree, the scan does not either.
use native.Mathlib.Omega.{arith}
use Prim.Native.Nat.{◌-◌}
use Rattle.uses.specs.Settings.{arrays_in}
use Rattle.uses.proofs.Scanned.{hint-at, hint-none}
use Rattle.uses.proofs.scanning.hint_agrees.Goals as goal

pub returns-then-number-eq0 : goal.returns-then-number-eq0
returns-then-number-eq0 c =
    hint-none (arrays_in c.args.setting.now c.args.frames) c.args.setting.now.transitions.now c.args.setting.now.count c.args.p c.args.q

pub transition_agrees-requires : goal.transition_agrees-requires
transition_agrees-requires c = record {
  framed = c.requires.framed;
  i_lt_count = omega (arith, c.args.setting.now.uses.known c.args.x, c.entry-number.ensures, c.if-number-eq0.false);
}

pub returns : goal.returns
returns c =
    hint-at (arrays_in c.args.setting.now c.args.frames) c.args.setting.now.transitions.now c.args.setting.now.count c.args.p c.args.q (c.entry-number.result - 1)
    (omega (arith, c.args.setting.now.uses.known c.args.x, c.entry-number.ensures, c.if-number-eq0.false))
    c.transition_agrees.ensures

use native.Mathlib.Omega.{arith}
use mathlib.Core.Path.{◌∙◌, sym}
use Rattle.lists.proofs.Loops.{every-broken, every-end, every-next}
use Rattle.uses.specs.Settings.{arrays_in}
use Rattle.uses.proofs.Scanned.{agrees_start}
use Rattle.uses.proofs.scanning.transition_agrees.Goals as goal

pub loop-k-init : goal.loop-k-init
loop-k-init c =
    agrees_start (arrays_in c.args.setting.now c.args.frames) c.args.setting.now.transitions.now c.args.setting.now.count c.args.p c.args.q c.args.i

pub place_agrees-requires : goal.place_agrees-requires
place_agrees-requires c = record {
  framed = c.requires.framed;
  i_lt_count = c.requires.i_lt_count;
  k_bound = omega (arith, c.arity_of-arity.ensures, c.loop-k-test.true);
  meta_value = c.meta_at-meta.ensures;
  args_value = c.args_at-args.ensures;
}

pub returns-then-not-place_agrees : goal.returns-then-not-place_agrees
returns-then-not-place_agrees c =
    every-broken c.loop-k.invariant
    (omega (arith, c.arity_of-arity.ensures)) (sym c.place_agrees.ensures ∙ c.if-not-place_agrees.true)

pub loop-k-preserved : goal.loop-k-preserved
loop-k-preserved c =
    every-next c.loop-k.invariant
    (omega (arith, c.arity_of-arity.ensures)) (sym c.place_agrees.ensures ∙ c.if-not-place_agrees.false)

pub returns : goal.returns
returns c = every-end c.loop-k.invariant (omega (arith, c.arity_of-arity.ensures))

use mathlib.Core.Path.{◌∙◌, sym}
use native.Mathlib.Omega.{arith}
use Rattle.lists.proofs.Loops.{every-broken, every-end, every-next, every-start}
use Rattle.packed.proofs.layout.transitions_fit.Goals as goal

pub loop-i-init : goal.loop-i-init
loop-i-init c = every-start c.args.count (omega arith)

pub returns-then-not-transition_fits : goal.returns-then-not-transition_fits
returns-then-not-transition_fits c =
    every-broken c.loop-i.invariant (omega arith)
    (sym c.transition_fits.ensures ∙ c.if-not-transition_fits.true)

pub loop-i-preserved : goal.loop-i-preserved
loop-i-preserved c =
    every-next c.loop-i.invariant (omega arith)
    (sym c.transition_fits.ensures ∙ c.if-not-transition_fits.false)

pub returns : goal.returns
returns c = every-end c.loop-i.invariant (omega arith)

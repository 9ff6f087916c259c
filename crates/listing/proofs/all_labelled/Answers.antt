use Rattle.lists.proofs.Loops.{every-broken, every-end, every-next, every-start}
use Rattle.trees.specs.Listing.{all_labelled}
use native.Mathlib.Nat.{zero-add}
use mathlib.Core.Path.{ap, ◌∙◌, sym}
use mathlib.Core.Bool.{not}
use borrow.Author.Tests.{eq-eqb, ne_eqb}
use Rattle.listing.proofs.all_labelled.Goals as goal

pub loop-i-init : goal.loop-i-init
unfolding all_labelled
loop-i-init c = every-start _ (zero-add _)

pub returns-then-label_at-eq0 : goal.returns-then-label_at-eq0
returns-then-label_at-eq0 c =
    let turn = c.loop-i in
    every-broken turn.invariant c.loop-i-test.true (ap not (eq-eqb _ 0 (sym c.label_at.ensures.value ∙ c.if-label_at-eq0.true)))

pub loop-i-preserved : goal.loop-i-preserved
loop-i-preserved c =
    let turn = c.loop-i in
    every-next turn.invariant c.loop-i-test.true (ap not (ne_eqb _ 0 (λ e. c.if-label_at-eq0.false (c.label_at.ensures.value ∙ e))))

pub returns : goal.returns
returns c = every-end c.loop-i.invariant c.loop-i-test.false

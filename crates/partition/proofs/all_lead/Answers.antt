use mathlib.Core.Path.{◌∙◌, ap, sym}
use native.Mathlib.Omega.{arith}
use lib.Dec.{eqb}
use borrow.Author.Tests.{eq-eqb, ne_eqb}
use Rattle.lists.proofs.Loops.{every-broken, every-end, every-next, every-start}
use Rattle.partition.specs.Parts.{all_lead}
use Rattle.partition.proofs.all_lead.Goals as goal

pub loop-q-init : goal.loop-q-init
loop-q-init c = every-start c.args.n (omega arith)

pub returns-then-from-q : goal.returns-then-from-q
unfolding all_lead
returns-then-from-q c =
    every-broken c.loop-q.invariant (omega arith)
    (ap (λ x. eqb x c.loop-q.q) (sym c.from.ensures) ∙ ne_eqb _ _ c.if-from-q.true)

pub loop-q-preserved : goal.loop-q-preserved
loop-q-preserved c =
    every-next c.loop-q.invariant (omega arith)
    (ap (λ x. eqb x c.loop-q.q) (sym c.from.ensures) ∙ eq-eqb _ _ c.if-from-q.false)

pub returns : goal.returns
unfolding all_lead
returns c = every-end c.loop-q.invariant (omega arith)

-- `ranks::weights::trees_into` meets its contract: a transition into another state has no trees of q.
use native.Mathlib.Omega.{arith}
use mathlib.Core.Path.{◌∙◌, refl, sym}
use borrow.Author.Tests.{eq-eqb, ne_eqb}
use Rattle.table.specs.Layout.{out_of}
use Rattle.totals.proofs.Limits.{total-is}
use Rattle.ranks.proofs.weights.trees_into.Goals as goal

pub returns-then-out_of-q : goal.returns-then-out_of-q
returns-then-out_of-q c =
    let d = c.out_of.ensures.value in
    let e = ne_eqb (out_of c.args.transitions.now c.args.at) c.args.q
    (λ z. c.if-out_of-q.true (d ∙ z)) in
    rw e (total-is refl (omega arith))

pub returns : goal.returns
returns c =
    let d = c.out_of.ensures.value in
    let e = eq-eqb (out_of c.args.transitions.now c.args.at) c.args.q
    (sym d ∙ c.if-out_of-q.false) in
    rw e c.product.ensures

-- `uses::swapping::either` meets its contract.
use mathlib.Core.Path.{◌∙◌, sym}
use borrow.Author.Tests.{eq-eqb, ne_eqb}
use Rattle.uses.proofs.swapping.either.Goals as goal

pub returns-then-arg-from : goal.returns-then-arg-from
returns-then-arg-from c =
    rw (eq-eqb c.args.arg c.args.p (c.if-arg-from.true ∙ c.from.ensures))

pub returns : goal.returns
returns c =
    rw (ne_eqb c.args.arg c.args.p (λ e. c.if-arg-from.false (e ∙ sym c.from.ensures)))

-- `partition::repairing::part_key` meets its contract: q is of the part, or not.
use mathlib.Core.Path.{◌∙◌, sym}
use borrow.Author.Tests.{eq-eqb, ne_eqb}
use Rattle.partition.proofs.repairing.part_key.Goals as goal

pub returns-then-from-lead : goal.returns-then-from-lead
returns-then-from-lead c = rw (ne_eqb _ _ (λ d. c.if-from-lead.true (c.from.ensures ∙ d)))

pub returns : goal.returns
returns c =
    c.from-2.ensures ∙ c.part_to.ensures ∙ rw (eq-eqb _ _ (sym c.from.ensures ∙ c.if-from-lead.false))

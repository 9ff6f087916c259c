-- `scalebench::numbers::answer_number` meets its contract: the number of each case.
use mathlib.Core.Path.{◌∙◌, ap, sym}
use Prim.Native.Nat.{◌*◌, ℕ}
use Rattle.calls.specs.Answers.{answer_number}
use Rattle.scalebench.proofs.numbers.answer_number.Goals as goal

pub returns-in-NotAt : goal.returns-in-NotAt
returns-in-NotAt c =
    ap (λ (n : ℕ). 65536 * n) c.from.ensures ∙ ap answer_number (sym c.in-NotAt.is)

pub returns-in-Accepted : goal.returns-in-Accepted
returns-in-Accepted c =
    c.counts.ensures ∙ ap answer_number (sym c.in-Accepted.is)

pub returns-in-Done : goal.returns-in-Done
returns-in-Done c =
    c.counts-in-Done.ensures ∙ ap answer_number (sym c.in-Done.is)

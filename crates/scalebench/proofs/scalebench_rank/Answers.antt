-- `scalebench_rank` meets its contract: the number of the answer, and the tree's number in the number that was lent.
use mathlib.Core.Path.{◌∙◌, ap}
use Rattle.calls.specs.Answers.{answer_number, number_after}
use Rattle.scalebench.proofs.scalebench_rank.Goals as goal

pub returns : goal.returns
returns c = record {
  answer = c.answer_number.ensures ∙ ap answer_number c.rank-answer.ensures;
  written = c.number_after.ensures ∙ ap (λ a. number_after a c.args.number.now) c.rank-answer.ensures;
}

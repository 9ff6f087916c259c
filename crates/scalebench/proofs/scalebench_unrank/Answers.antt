-- `scalebench_unrank` meets its contract: the number of the answer, and what the call leaves in the buffer.
use mathlib.Core.Path.{◌∙◌, ap}
use Rattle.calls.specs.Answers.{answer_number}
use Rattle.calls.specs.Calls.{Response}
use Rattle.scalebench.proofs.scalebench_unrank.Goals as goal

pub returns : goal.returns
returns c = record {
  answer = c.answer_number.ensures ∙ ap (λ (r : Response). answer_number r.answer) c.unrank-answer.ensures;
  written = ap (λ (r : Response). r.lent) c.unrank-answer.ensures;
}

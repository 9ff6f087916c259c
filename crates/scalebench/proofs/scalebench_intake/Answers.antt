-- `scalebench_intake` meets its contract: the number of the answer.
use mathlib.Core.Path.{◌∙◌, ap}
use Rattle.calls.specs.Answers.{answer_number}
use Rattle.scalebench.proofs.scalebench_intake.Goals as goal

pub returns : goal.returns
returns c = c.answer_number.ensures ∙ ap answer_number c.take_in-answer.ensures

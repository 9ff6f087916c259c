-- `text::read_label` meets its contract: the bytes passed are the label so far.
use Rattle.text.specs.Clauses.{LabelTo}
use Rattle.text.proofs.read_label.Given as goal

abbrev pub invariant-loop-i : goal.invariant-loop-i
invariant-loop-i l = LabelTo l.s l.i l.value

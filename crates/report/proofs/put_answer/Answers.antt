-- `report::put_answer` meets its contract: in each case the word and the fields in a row are the text of the answer.
use Rattle.report.proofs.Puts.{put_then}
use Rattle.report.specs.Report.{answer_text}
use native.Mathlib.Omega.{arith}
use Rattle.report.proofs.put_answer.Goals as goal

pub returns-in-Approved : goal.returns-in-Approved
unfolding answer_text
returns-in-Approved c = record { text = rw c.in-Approved.is c.put_word.ensures; within = omega arith }

pub returns-in-NotPart : goal.returns-in-NotPart
unfolding answer_text
returns-in-NotPart c = record { text = rw c.in-NotPart.is c.put_word-in-NotPart.ensures; within = omega arith }

pub returns-in-NotAt : goal.returns-in-NotAt
unfolding answer_text
returns-in-NotAt c = record {
  text = rw c.in-NotAt.is (put_then c.put_word-first.ensures c.put_field.ensures.text);
  within = omega arith;
}

pub returns-in-Accepted : goal.returns-in-Accepted
unfolding answer_text
returns-in-Accepted c = record {
  text = rw c.in-Accepted.is (put_then c.put_word-first-in-Accepted.ensures c.put_counts.ensures.text);
  within = omega arith;
}

pub returns-in-Done : goal.returns-in-Done
unfolding answer_text
returns-in-Done c = record {
  text = rw c.in-Done.is (put_then c.put_word-first-in-Done.ensures c.put_counts-in-Done.ensures.text);
  within = omega arith;
}

pub returns-in-Total : goal.returns-in-Total
unfolding answer_text
returns-in-Total c = record {
  text = rw c.in-Total.is (put_then c.put_word-first-in-Total.ensures c.put_field-in-Total.ensures.text);
  within = omega arith;
}

pub returns-in-Over : goal.returns-in-Over
unfolding answer_text
returns-in-Over c = record { text = rw c.in-Over.is c.put_word-in-Over.ensures; within = omega arith }

pub returns-in-Serial : goal.returns-in-Serial
unfolding answer_text
returns-in-Serial c = record {
  text = rw c.in-Serial.is (put_then c.put_word-first-in-Serial.ensures c.put_field-in-Serial.ensures.text);
  within = omega arith;
}

pub returns-in-Finished : goal.returns-in-Finished
unfolding answer_text
returns-in-Finished c = record { text = rw c.in-Finished.is c.put_word-in-Finished.ensures; within = omega arith }

pub returns-in-Refused : goal.returns-in-Refused
unfolding answer_text
returns-in-Refused c = record {
  text = rw c.in-Refused.is (put_then c.put_word-first-in-Refused.ensures c.put_field-in-Refused.ensures.text);
  within = omega arith;
}

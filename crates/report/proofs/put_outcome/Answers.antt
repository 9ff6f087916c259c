-- `report::put_outcome` meets its contract: in each case what is put is the text of the outcome.
use native.Mathlib.Omega.{arith}
use Rattle.report.proofs.Puts.{put_then}
use Rattle.report.specs.Report.{outcome_text}
use Rattle.report.proofs.put_outcome.Goals as goal

pub returns-in-Ok : goal.returns-in-Ok
unfolding outcome_text
returns-in-Ok c = record { text = rw c.in-Ok.is c.put_answer.ensures.text; within = omega arith }

pub returns-in-Form : goal.returns-in-Form
unfolding outcome_text
returns-in-Form c = record {
  text = rw (c.in-Err.is, c.in-Form.is) (put_then c.put_word-first.ensures c.put_field.ensures.text);
  within = omega arith;
}

pub returns-in-Long : goal.returns-in-Long
unfolding outcome_text
returns-in-Long c = record { text = rw (c.in-Err.is, c.in-Long.is) c.put_word.ensures; within = omega arith }

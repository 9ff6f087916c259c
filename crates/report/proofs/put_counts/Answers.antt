-- `report::put_counts` meets its contract: two fields in a row.
use Rattle.report.proofs.Puts.{put_then}
use native.Mathlib.Omega.{arith}
use Rattle.report.proofs.put_counts.Goals as goal

pub returns : goal.returns
returns c = record {
  text = put_then c.put_field-second.ensures.text c.put_field.ensures.text;
  within = omega arith;
}

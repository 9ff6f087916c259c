-- `put_field` meets its contract: a number has at most 20 digits.
use native.Mathlib.Omega.{arith}
use Rattle.report.specs.Report.{field}
use Rattle.report.proofs.Decimal.{decimal-fits}
use Rattle.report.proofs.Puts.{put_then}
use borrow.Author.Rules.{rules}
use Rattle.report.proofs.put_field.Goals as goal

pub put_number-requires : goal.put_number-requires
put_number-requires c =
    let short = decimal-fits c.ranges.n in search rules

pub returns : goal.returns
unfolding field
returns c =
    let short = decimal-fits c.ranges.n in
    record { text = put_then c.put_byte-number.ensures c.put_number.ensures; within = omega arith }

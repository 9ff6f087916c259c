-- `line` meets its contract: the texts of its parts in a row are the line's text, and a number has at most 20 digits.
use native.Mathlib.Omega.{arith}
use borrow.Author.Rules.{rules}
use Rattle.report.specs.Report.{line_text}
use Rattle.report.proofs.Decimal.{decimal-fits}
use Rattle.report.proofs.Puts.{put-printed, put_then}
use Rattle.report.proofs.line.Goals as goal

pub put_number-space-requires : goal.put_number-space-requires
put_number-space-requires c = let short = decimal-fits c.ranges.number in search rules

pub put_byte-word-requires : goal.put_byte-word-requires
put_byte-word-requires c =
    let short = decimal-fits c.ranges.number in search rules

pub put_outcome-last-requires : goal.put_outcome-last-requires
put_outcome-last-requires c =
    let short = decimal-fits c.ranges.number in search rules

pub put_byte-requires : goal.put_byte-requires
put_byte-requires c =
    let short = decimal-fits c.ranges.number in
    search rules

pub returns : goal.returns
unfolding line_text
returns c =
    let short = decimal-fits c.ranges.number in
    put-printed c.requires
    (put_then c.put_number-space.ensures
    (put_then c.put_byte-word.ensures (put_then c.put_outcome-last.ensures.text c.put_byte.ensures)))
    (omega arith)

-- `end` meets its contract: the texts of its parts in a row are the text.
use native.Mathlib.Omega.{arith}
use Rattle.report.specs.Report.{end_text}
use Rattle.report.proofs.Puts.{put_then, put-printed}
use Rattle.report.proofs.end.Goals as goal

pub returns : goal.returns
unfolding end_text
returns c =
    put-printed c.requires
    (put_then c.put_word-first.ensures
    (put_then c.put_field-second.ensures.text
    (put_then c.put_field-third.ensures.text
    (put_then c.put_field-last.ensures.text c.put_byte.ensures))))
    (omega arith)

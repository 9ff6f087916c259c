-- `text::close_line` meets its contract: a closing bracket and then the end.
use Rattle.text.proofs.FormReader.{line-closed, line-cut, line-more, line-unclosed}
use Rattle.text.proofs.close_line.Goals as goal

pub returns-then-place-line : goal.returns-then-place-line
returns-then-place-line c = search line-cut

pub returns-then-line-place-ne-CLOSE : goal.returns-then-line-place-ne-CLOSE
returns-then-line-place-ne-CLOSE c = search line-unclosed

pub returns-then-end-line : goal.returns-then-end-line
returns-then-end-line c = search line-more

pub returns : goal.returns
returns c = search line-closed

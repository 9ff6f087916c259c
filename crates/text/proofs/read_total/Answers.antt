-- `text::read_total` meets its contract: the line agrees with the text to the end of both, or the cursor stands after
-- the bytes that agree.
use Rattle.text.proofs.TotalReader.{total-more, total-short, total-whole}
use Rattle.text.proofs.read_total.Goals as goal

pub returns-then-len-lt7 : goal.returns-then-len-lt7
returns-then-len-lt7 c = search total-short

pub returns-then-len-line : goal.returns-then-len-line
returns-then-len-line c = search total-more

pub returns : goal.returns
returns c = search total-whole

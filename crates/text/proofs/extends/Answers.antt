-- `text::extends` meets its contract: a digit, no leading zero, and at most the largest label.
use Rattle.text.proofs.Labels.{digit_low, extends-other, extends-small, extends-zero}
use Rattle.text.proofs.extends.Goals as goal

pub returns-then-not-is_digit : goal.returns-then-not-is_digit
returns-then-not-is_digit c = search extends-other

pub returns-then-value-eq0 : goal.returns-then-value-eq0
returns-then-value-eq0 c = search extends-zero

pub digit_value-requires : goal.digit_value-requires
digit_value-requires c = search digit_low

pub returns : goal.returns
returns c = search extends-small

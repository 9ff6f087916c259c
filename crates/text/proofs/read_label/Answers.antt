use Rattle.std.proofs.Common.{arith, rules}
use Rattle.text.proofs.Heads.{label-absent, label-first, label-last, label-next}
use Rattle.text.proofs.Heads.{label-other, label-stopped}
use Rattle.text.proofs.read_label.Goals as goal

pub returns-then-is_empty : goal.returns-then-is_empty
returns-then-is_empty c = search (rules, label-absent)

pub returns-then-not-is_digit : goal.returns-then-not-is_digit
returns-then-not-is_digit c = search label-other

pub loop-i-init : goal.loop-i-init
loop-i-init c = search (rules, label-first)

pub returns-then-not-extends : goal.returns-then-not-extends
returns-then-not-extends c = search label-stopped

pub loop-i-preserved : goal.loop-i-preserved
loop-i-preserved c =
    label-next _ _ _ _ c.extends.ensures c.if-not-extends.false _ c.digit_value.ensures
    c.loop-i.invariant (omega arith)

pub returns : goal.returns
returns c = search label-last

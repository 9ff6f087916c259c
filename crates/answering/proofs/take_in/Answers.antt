-- `answering::take_in` meets its contract: refused, or the numbers in the head of the table.
use native.Mathlib.Omega.{arith}
use mathlib.Core.Path.{◌∙◌, refl, sym}
use Rattle.fields.proofs.Transitions.{passed-table}
use Rattle.format.proofs.Refusals.{refusal-some}
use Rattle.answering.proofs.Reading.{take-answered, take-refused}
use Rattle.answering.proofs.take_in.Goals as goal

pub returns-in-Err : goal.returns-in-Err
returns-in-Err c = c.from.ensures ∙ take-refused c.args.table.now c.in-Err.ensures (refusal-some _)

pub transition_count-transitions-requires : goal.transition_count-transitions-requires
transition_count-transitions-requires c =
    (passed-table (c.args.table.now) (sym c.in_default.ensures)).size

pub bounds-table-0 : goal.bounds-table-0
bounds-table-0 c =
    omega (arith, (passed-table (c.args.table.now) (sym c.in_default.ensures)).size)

pub returns : goal.returns
returns c =
    take-answered (c.args.table.now) c.in_default.ensures refl c.from-2.ensures c.transition_count-transitions.ensures.value

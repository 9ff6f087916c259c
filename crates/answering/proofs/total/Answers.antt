-- `answering::total` meets its contract: refused, or the number of trees.
use mathlib.Core.Path.{◌∙◌, refl}
use Rattle.format.proofs.Refusals.{refusal-some}
use Rattle.std.specs.declared.option.Option.TheVariants.{None, Some}
use Rattle.answering.proofs.Totalling.{total-answered, total-refused}
use Rattle.answering.proofs.total.Goals as goal

pub returns-in-Err : goal.returns-in-Err
returns-in-Err c = c.from.ensures ∙ total-refused c.args.table.now c.in-Err.ensures (refusal-some _)

pub returns-in-Some : goal.returns-in-Some
returns-in-Some c =
    total-answered c.args.table.now c.in_default.ensures refl c.total.ensures
    (Some c.in-Some.number) c.in-Some.is

pub returns-in-None : goal.returns-in-None
returns-in-None c =
    total-answered c.args.table.now c.in_default.ensures refl c.total.ensures
    None c.in-None.is

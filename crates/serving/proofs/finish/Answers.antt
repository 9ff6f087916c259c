-- `serving::finish` meets its contract: the numbers printed last are those that intake reports.
use mathlib.Core.Path.{◌∙◌, refl, sym}
use Rattle.serving.proofs.Handled.{printed-closing, other-closing}
use Rattle.serving.proofs.finish.Goals as goal

pub returns-in-Accepted : goal.returns-in-Accepted
returns-in-Accepted c =
    printed-closing _ _ _ _ _ _ (sym c.in-Accepted.is ∙ c.take_in.ensures) refl c.end.ensures

pub returns-in_default : goal.returns-in_default
returns-in_default c =
    printed-closing c.args.lines c.args.table.now _ _ _ c.take_in.result c.take_in.ensures
    (other-closing c.args.lines c.take_in.result c.in_default.not-Accepted) c.end-in_default.ensures

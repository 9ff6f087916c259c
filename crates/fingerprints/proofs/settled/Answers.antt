-- `fingerprints::settled` meets its contract: the fingerprints show conditions 10 and 12.
use mathlib.Core.Bool.{false≢true}
use Rattle.std.proofs.Common.{sym, ap, ◌∙◌}
use Rattle.fields.proofs.Views.{viewed-ranged, viewed-states}
use Rattle.fields.specs.View.{viewed}
use Rattle.fingerprints.specs.Fingerprints.{all_differ, all_some}
use Rattle.fingerprints.proofs.Shown.{is-settled}
use Rattle.fingerprints.proofs.settled.Goals as goal

pub returns-then-not-all_some : goal.returns-then-not-all_some
returns-then-not-all_some c = λ e. absurd (false≢true e)

pub returns : goal.returns
returns c =
    λ e. is-settled (viewed c.args.classes.now c.args.transitions.now c.args.n
    c.args.count) c.state_prints-prints.result c.state_prints-prints.ensures
    (viewed-ranged c.args.classes.now c.args.transitions.now c.args.n c.args.count
    c.requires.viewed.over) c.requires.count_value
    (ap (all_some c.state_prints-prints.result) (viewed-states c.args.classes.now
    c.args.transitions.now c.args.n c.args.count) ∙ sym c.all_some.ensures
    ∙ c.if-not-all_some.false)
    (ap (all_differ c.state_prints-prints.result) (viewed-states c.args.classes.now
    c.args.transitions.now c.args.n c.args.count) ∙ sym c.all_differ.ensures ∙ e)

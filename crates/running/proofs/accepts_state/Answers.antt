-- A tree is accepted if the class byte of its state is 1; 0, no state, has none.
use mathlib.Core.Path.{◌∙◌}
use Rattle.running.proofs.Tables.{class-reached, none-reached}
use Rattle.running.proofs.accepts_state.Goals as goal

pub returns-then-at-eq0 : goal.returns-then-at-eq0
returns-then-at-eq0 c =
    let w = c.from-at in
    λ t e. none-reached c.args.table.now c.requires t w.result (w.ensures ∙ e) c.if-at-eq0.true

pub returns : goal.returns
returns c =
    let w = c.from-at in
    λ t e. class-reached c.args.table.now c.requires t w.result (w.ensures ∙ e) c.if-at-eq0.false

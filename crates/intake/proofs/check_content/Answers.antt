-- `intake::check_content` meets its contract: 7 and 8 first, then those of the automaton.
use mathlib.Core.Path.{◌∙◌, sym}
use Rattle.intake.proofs.Checks.{refused-7, refused-8, table-padded, table-rises, table-seen}
use Rattle.intake.proofs.Checks.{table-answer}
use Rattle.intake.proofs.check_content.Goals as goal

pub returns-then-not-layout_fits : goal.returns-then-not-layout_fits
returns-then-not-layout_fits c =
    refused-7 c.args.table.now c.layout_fits.ensures c.if-not-layout_fits.true

pub rises-requires : goal.rises-requires
rises-requires c =
    table-padded c.args.table.now c.requires (sym c.layout_fits.ensures ∙ c.if-not-layout_fits.false)
    c.transition_count-count.ensures.value

pub returns-then-not-rises : goal.returns-then-not-rises
returns-then-not-rises c =
    refused-8 c.args.table.now c.layout_fits.ensures c.if-not-layout_fits.false
    (table-rises c.args.table.now c.transition_count-count.ensures.value c.rises.ensures) c.if-not-rises.true

pub check_automaton-requires : goal.check_automaton-requires
check_automaton-requires c =
    let both = table-seen c.args.table.now c.requires (sym c.layout_fits.ensures ∙ c.if-not-layout_fits.false)
    c.transition_count-count.ensures.value c.from-n.ensures
    (sym (table-rises c.args.table.now c.transition_count-count.ensures.value c.rises.ensures) ∙ c.if-not-rises.false) in
    record { viewed = both.0; holds_padded = both.1.0; count_value = both.1.1 }

pub returns : goal.returns
returns c =
    table-answer c.args.table.now (sym c.layout_fits.ensures ∙ c.if-not-layout_fits.false)
    (sym (table-rises c.args.table.now c.transition_count-count.ensures.value c.rises.ensures) ∙ c.if-not-rises.false)
    c.transition_count-count.ensures.value c.from-n.ensures c.check_automaton.ensures

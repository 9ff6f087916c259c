-- `packed::layout::layout_fits` meets its contract: at each early return one test of the definition fails.
use mathlib.Core.Path.{◌∙◌, sym}
use native.Mathlib.Omega.{arith}
use Rattle.packed.proofs.LayoutChecks.{broken-class, broken-field, many-states, many-transitions, part-fits}
use Rattle.packed.proofs.LayoutChecks.{part-zeros, zeros-decide}
use Rattle.packed.proofs.layout.layout_fits.Goals as goal

pub returns-then-states-gt-MAX_STATES : goal.returns-then-states-gt-MAX_STATES
returns-then-states-gt-MAX_STATES c = many-states c.args.table.now (omega arith)

pub returns-then-not-classes_fit : goal.returns-then-not-classes_fit
returns-then-not-classes_fit c =
    broken-class c.args.table.now (omega arith)
    (sym c.classes_fit.ensures ∙ c.if-not-classes_fit.true)

pub returns-then-count-gt-MAX_TRANSITIONS : goal.returns-then-count-gt-MAX_TRANSITIONS
returns-then-count-gt-MAX_TRANSITIONS c =
    many-transitions c.args.table.now (omega arith)
    (sym c.classes_fit.ensures ∙ c.if-not-classes_fit.false)
    (omega arith)

pub returns-then-not-transitions_fit : goal.returns-then-not-transitions_fit
returns-then-not-transitions_fit c =
    let classes = sym c.classes_fit.ensures ∙ c.if-not-classes_fit.false in
    let fields = part-fits c.args.table.now
    c.from-states.ensures
    c.transition_count-count.ensures.value c.transitions_fit.ensures in
    broken-field c.args.table.now (omega arith) classes (omega arith)
    (sym fields ∙ c.if-not-transitions_fit.true)

pub returns : goal.returns
returns c =
    let classes = sym c.classes_fit.ensures ∙
    c.if-not-classes_fit.false in
    let fields = part-fits c.args.table.now
    c.from-states.ensures
    c.transition_count-count.ensures.value
    c.transitions_fit.ensures in
    let zeros = part-zeros c.args.table.now c.requires
    c.transition_count-count.ensures.value
    c.zeros_from.ensures in
    zeros-decide c.args.table.now (omega arith) classes (omega arith)
    (sym fields ∙ c.if-not-transitions_fit.false) zeros

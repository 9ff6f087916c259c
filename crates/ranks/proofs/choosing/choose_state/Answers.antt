use native.Mathlib.Omega.{arith}
use mathlib.Core.List.{[]}
use mathlib.Core.Path.{◌∙◌, ◌≡◌, ap, sym}
use borrow.Author.Tests.{eq-eqb, ne_eqb}
use Rattle.automata.specs.Automaton.{accepting}
use Rattle.fields.specs.View.{viewed}
use Rattle.fields.proofs.Views.{viewed-class}
use Rattle.table.specs.Layout.{class_at}
use Rattle.totals.specs.Limited.{worth}
use Rattle.totals.proofs.Tables.{number-at}
use Rattle.ranks.proofs.Places.{state-found, state-next, state-skip, state-start}
use Rattle.ranks.proofs.choosing.choose_state.Goals.{In-loop-q, else-accepting, then-accepting+in-Some}
use Rattle.ranks.proofs.choosing.choose_state.Goals as goal

pub loop-q-init : goal.loop-q-init
loop-q-init c = state-start c.ranges.number.fits c.requires.number_bound

-- the class is that of the automaton that code sees
class : (c : In-loop-q) →
    accepting (viewed c.args.classes.now [] c.args.n 0) c.loop-q.q ≡ class_at c.args.classes.now c.loop-q.q
class c = viewed-class c.args.classes.now [] c.args.n 0 c.loop-q.q (omega arith) (omega arith)

pub returns-in_default : goal.returns-in_default
returns-in_default c =
    state-found c.loop-q.invariant (omega arith)
    (class (goal.at.returns-in_default c).In-loop-q ∙ eq-eqb _ 1 (grind arith))
    (ap worth (sym c.in-Some.is) ∙ number-at c.args.numbers.now c.loop-q.q) c.if-here-left.false

pub returns-in_default-2 : goal.returns-in_default-2
returns-in_default-2 c =
    state-found c.loop-q.invariant (omega arith)
    (class (goal.at.returns-in_default-2 c).In-loop-q ∙ eq-eqb _ 1 (grind arith))
    (ap worth (sym c.in_default.is) ∙ number-at c.args.numbers.now c.loop-q.q) c.loop-q.invariant.fits

pub loop-q-preserved : goal.loop-q-preserved
loop-q-preserved c = elim c.if-accepting.branch [
  | then-accepting+in-Some w ↦
      rw w.left-is (state-next c.loop-q.invariant (omega arith)
      (class (goal.at.loop-q-preserved c).In-loop-q ∙ eq-eqb _ 1 (grind arith))
      (ap worth (sym w.in-Some.is) ∙ number-at c.args.numbers.now c.loop-q.q) w.if-here-left.true)
  | else-accepting w ↦
      rw w.left-is (state-skip c.loop-q.invariant (omega arith)
      (class (goal.at.loop-q-preserved c).In-loop-q ∙ ne_eqb _ 1 (λ e. grind arith)))
]

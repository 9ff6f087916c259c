use native.Mathlib.Omega.{arith}
use mathlib.Core.List.{[]}
use mathlib.Core.Path.{◌∙◌, ◌≡◌}
use borrow.Author.Tests.{eq-eqb, ne_eqb}
use Rattle.automata.specs.Automaton.{accepting}
use Rattle.fields.specs.View.{viewed}
use Rattle.fields.proofs.Views.{viewed-class}
use Rattle.totals.proofs.Accepting.{accepted-end, accepted-kept, accepted-next, accepted-start, accepted-worth}
use Rattle.table.specs.Layout.{class_at}
use Rattle.totals.proofs.Tables.{number-at}
use Rattle.totals.proofs.sum_accepting.Goals.{In-loop-q, else-accepting, then-accepting}
use Rattle.totals.proofs.sum_accepting.Goals as goal

pub loop-q-init : goal.loop-q-init
loop-q-init c = accepted-start

-- the class is that of the automaton that code sees
class : (c : In-loop-q) →
    accepting (viewed c.args.classes.now [] c.args.n 0) c.loop-q.q ≡ class_at c.args.classes.now c.loop-q.q
class c = viewed-class c.args.classes.now [] c.args.n 0 c.loop-q.q (omega arith) (omega arith)

pub loop-q-preserved : goal.loop-q-preserved
loop-q-preserved c = elim c.if-accepting.branch [
  | then-accepting w ↦
      rw w.sum-is (accepted-next c.loop-q.invariant (omega arith)
      (class (goal.at.loop-q-preserved c).In-loop-q ∙ eq-eqb _ 1 (grind arith))
      (number-at c.args.numbers.now c.loop-q.q) w.plus-sum.ensures)
  | else-accepting w ↦
      rw w.sum-is (accepted-worth c.loop-q.invariant (omega arith)
      (class (goal.at.loop-q-preserved c).In-loop-q ∙ ne_eqb _ 1 (λ e. grind arith))
      (grind (arith, accepted-kept c.loop-q.invariant (omega arith))))
]

pub returns : goal.returns
returns c = accepted-end {n = c.args.n} c.loop-q.invariant (omega arith)

use Rattle.std.proofs.Common.{◌≡◌, ℕ, [], replicate, ◌∙◌, arith, length-set, rules}
use lib.ListN.{length-replicate}
use Rattle.automata.specs.Automaton.{accepting}
use Rattle.fields.specs.View.{viewed}
use Rattle.format.specs.Format.{byte_values}
use Rattle.lists.specs.Tests.{bit}
use Rattle.marking.proofs.Spreading.{unmarked}
use Rattle.validity.proofs.Sweeping.{filled-above, filled-all, filled_next, filled-start}
use Rattle.fields.proofs.Views.{viewed-beyond, viewed-class}
use Rattle.validity.proofs.usefulness.accepting_marks.Goals as goal

pub loop-q-init : goal.loop-q-init
loop-q-init c = (
  length-replicate {A = ℕ} byte_values 0,
  filled-start
      (viewed c.args.classes.now [] c.args.n 0) (replicate byte_values 0)
      (unmarked byte_values 0),
  λ j h. unmarked byte_values j,
)

pub loop-q-preserved : goal.loop-q-preserved
loop-q-preserved c =
    let now = c.loop-q in
    let class : c.from.result ≡ bit (accepting (viewed c.args.classes.now [] c.args.n 0) now.q) =
    rw (viewed-class c.args.classes.now [] c.args.n 0 now.q (omega arith) (omega arith)) (search rules) in (
      length-set {A = ℕ} now.marks now.q c.from.result ∙ now.invariant.0,
      filled_next (accepting (viewed c.args.classes.now [] c.args.n 0))
          now.marks now.q c.from.result (omega (arith, now.invariant.0)) class now.invariant.1,
      filled-above now.marks now.q c.from.result now.invariant.2,
    )

pub returns : goal.returns
returns c =
    filled-all c.loop-q.invariant.0 c.loop-q.q c.loop-q.invariant.1 c.loop-q.invariant.2
    (λ j h. viewed-beyond c.args.classes.now [] c.args.n 0 j (omega arith))

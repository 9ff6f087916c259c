use mathlib.Core.Path.{◌∙◌}
use Rattle.marking.specs.Spread.{UpTo}
use Rattle.marking.proofs.Spreading.{growing-closed, growing-less, led-none, led-spread, led-then}
use Rattle.pairs.specs.Counts.{nth_some_up}
use Rattle.pairs.proofs.Marking.{marks-open}
use Rattle.pairs.proofs.opening.open_states.Goals as goal

pub loop-init : goal.loop-init
loop-init c =
    (led-none (UpTo (nth_some_up c.args.transitions.now) c.args.count) _, c.open_at_once.ensures.size)

pub mark_outputs-requires : goal.mark_outputs-requires
mark_outputs-requires c = record { holds_transitions = c.requires.holds_transitions; marks_len = c.loop.invariant.1 }

pub loop-smaller : goal.loop-smaller
loop-smaller c = growing-less c.mark_outputs.ensures c.loop-test.true

pub loop-preserved : goal.loop-preserved
loop-preserved c =
    let now = c.loop in (led-then now.invariant.0 (led-spread c.mark_outputs.ensures), c.mark_outputs.ensures.swept.size ∙ now.invariant.1)

pub returns : goal.returns
returns c = record {
  fact = λ A t S C.
      marks-open S C c.sums_into.ensures c.open_at_once.ensures
      (led-then c.loop.invariant.0 (led-spread c.mark_outputs.ensures)) (growing-closed c.mark_outputs.ensures c.loop-test.false);
  marks_len_2 = c.mark_outputs.ensures.swept.size ∙ c.loop.invariant.1;
}

-- `sorted::steps::stepped` meets its contract: 0 for no state, else what the search finds.
use Rattle.format.specs.Format.{transition_bytes}
use mathlib.Core.Path.{◌∙◌, ap, sym}
use Prim.Native.Nat.{◌*◌}
use Rattle.sorted.specs.Steps.{step_at}
use Rattle.fields.proofs.Transitions.{readable}
use Rattle.sorted.proofs.Stepping.{step-none, step-some}
use Rattle.sorted.proofs.steps.stepped.Goals as goal

pub returns-then-q-eq0 : goal.returns-then-q-eq0
returns-then-q-eq0 c =
    step-none c.args.transitions.now c.args.count (transition_bytes * c.args.i) c.args.k ∙ ap (step_at c.args.transitions.now c.args.count (transition_bytes * c.args.i) c.args.k) (sym c.if-q-eq0.true)

pub replaced-requires : goal.replaced-requires
replaced-requires c = record {
  sorted = c.requires.sorted;
  readable = readable c.requires.sorted.runs c.args.i c.requires.i_lt_count;
  k_bound = c.requires.k_bound;
}

pub returns : goal.returns
returns c =
    step-some c.args.transitions.now c.args.count c.args.n c.args.i c.args.k
    c.args.q c.requires.holds_transitions_over c.requires.i_lt_count c.requires.k_bound c.if-q-eq0.false c.replaced.ensures

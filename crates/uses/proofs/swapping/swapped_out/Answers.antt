-- The search by the two numbers of the transition with y for x finds what the step gives.
use native.Mathlib.Omega.{arith}
use mathlib.Core.Path.{◌∙◌, ap, sym}
use Prim.Native.Nat.{◌*◌}
use Rattle.format.specs.Format.{transition_bytes}
use Rattle.sorted.specs.Steps.{step_at}
use Rattle.sorted.proofs.Stepping.{step-none}
use Rattle.uses.proofs.Stepping.{exchange-fits, step-found, step-nothing, exchange-inside}
use Rattle.uses.proofs.swapping.swapped_out.Goals as goal

pub returns-then-y-eq0 : goal.returns-then-y-eq0
returns-then-y-eq0 c =
    step-none c.args.setting.now.transitions.now c.args.setting.now.count (transition_bytes * c.args.i) c.args.k
    ∙ ap (step_at c.args.setting.now.transitions.now c.args.setting.now.count (transition_bytes * c.args.i) c.args.k) (sym c.if-y-eq0.true)

pub exchanged-sought-requires : goal.exchanged-sought-requires
exchanged-sought-requires c =
    let bytes = c.recall_bytes.ensures in
    record {
      k_lt_max_arity = omega (arith, c.args.setting.now.searchable.padded.runs.narrow c.args.i c.requires.i_lt_count, c.requires.k_bound);
      k_bound = exchange-inside bytes c.args.setting.now.searchable c.args.setting.now.over c.args.i c.args.k c.requires.i_lt_count
          c.requires.k_bound c.requires.args_value c.requires.x_value;
      k_bound_2 = exchange-fits bytes c.args.setting.now.searchable c.args.setting.now.over c.args.i c.args.k c.requires.i_lt_count
          c.requires.k_bound c.requires.args_value c.requires.x_value (omega (arith, c.ranges.y));
    }

pub returns-in_default : goal.returns-in_default
returns-in_default c =
    step-nothing c.recall_bytes.ensures c.args.setting.now.searchable c.args.setting.now.over c.args.i
    c.args.k c.requires.i_lt_count c.requires.k_bound c.requires.args_value c.requires.x_value
    (omega (arith, c.ranges.y)) c.if-y-eq0.false c.requires.meta_value
    c.exchanged-sought.ensures c.seek.ensures.by_index c.in_default.is

pub returns : goal.returns
returns c =
    c.out_of.ensures.value ∙ step-found c.recall_bytes.ensures c.args.setting.now.searchable c.args.setting.now.over
    c.args.i c.args.k c.requires.i_lt_count c.requires.k_bound c.requires.args_value c.requires.x_value
    (omega (arith, c.ranges.y)) c.if-y-eq0.false c.requires.meta_value
    c.exchanged-sought.ensures c.seek.ensures.by_index c.in-Some.is
    (c.seek.ensures.upper_bound _ c.in-Some.is)

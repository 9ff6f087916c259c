use mathlib.Core.Path.{◌∙◌}
use Rattle.partition.proofs.Classes.{class-parts, whole-grouped}
use Rattle.partition.proofs.Congruence.{parts-exact}
use Rattle.partition.proofs.Regrouping.{regrouped-grouped}
use Rattle.partition.proofs.Splitting.{split-end, split-less}
use Rattle.partition.proofs.all_apart.Goals as goal

pub class_parts-parts-requires : goal.class_parts-parts-requires
class_parts-parts-requires c = record { n_in_bounds = c.requires.viewed.classes; n_bound = c.requires.viewed.states }

pub loop-init : goal.loop-init
loop-init c = (
  regrouped-grouped (whole-grouped c.requires.viewed.states c.class_parts-parts.ensures.one) c.class_parts-parts.ensures.split,
  class-parts c.args.classes.now c.args.transitions.now c.args.n c.args.count
      c.requires.viewed c.requires.count_value c.requires.count_value_2 c.class_parts-parts.ensures.one c.class_parts-parts.ensures.classes c.class_parts-parts.ensures.split,
)

pub repair-requires : goal.repair-requires
repair-requires c = record {
  sorted = record { runs = c.requires.viewed.over.runs; rises = c.requires.count_value };
  holds_transitions_over = c.requires.viewed.over;
  grouped = c.loop.invariant.0;
}

pub loop-smaller : goal.loop-smaller
loop-smaller c = split-less c.repair.ensures c.loop-test.true

pub loop-preserved : goal.loop-preserved
loop-preserved c =
    (c.repair.ensures.grouped, c.repair.ensures.kept c.args.classes.now c.loop.invariant.1)

pub all_lead-requires : goal.all_lead-requires
all_lead-requires c = c.repair.ensures.grouped.few

pub returns : goal.returns
returns c =
    c.all_lead.ensures ∙
    parts-exact c.args.classes.now c.args.transitions.now c.args.n c.args.count
    c.requires.viewed.over c.repair.ensures.grouped (c.repair.ensures.kept c.args.classes.now c.loop.invariant.1)
    (split-end c.repair.ensures c.loop-test.false)

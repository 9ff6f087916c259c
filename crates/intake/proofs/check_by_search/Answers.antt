-- `intake::check_by_search` meets its contract: each return is the first condition broken, or none is.
use Rattle.std.proofs.Common.{rules}
use mathlib.Core.List.{[]}
use mathlib.Core.Path.{◌∙◌, sym}
use Rattle.fields.specs.View.{viewed}
use Rattle.intake.proofs.Checks.{not-refused, refused-10, refused-11, refused-12, refused-13, refused-9}
use Rattle.intake.proofs.check_by_search.Goals as goal

pub reached-requires : goal.reached-requires
reached-requires c = record {
  holds_transitions_over = c.requires.viewed.over;
  n_bound = c.requires.viewed.states;
  in_order_value = c.ruled-rule.ensures.by_index [];
}

pub returns-then-not-reached : goal.returns-then-not-reached
returns-then-not-reached c =
    refused-9 (viewed c.args.classes.now c.args.transitions.now c.args.n c.args.count)
    (c.reached.ensures c.args.classes.now) c.if-not-reached.true

pub returns-then-not-all_coaccessible : goal.returns-then-not-all_coaccessible
returns-then-not-all_coaccessible c =
    refused-10 (viewed c.args.classes.now c.args.transitions.now c.args.n c.args.count)
    (c.reached.ensures c.args.classes.now) c.if-not-reached.false
    c.all_coaccessible.ensures c.if-not-all_coaccessible.true

pub returns-then-not-acyclic : goal.returns-then-not-acyclic
returns-then-not-acyclic c =
    refused-11 (viewed c.args.classes.now c.args.transitions.now c.args.n c.args.count)
    (c.reached.ensures c.args.classes.now) c.if-not-reached.false
    c.all_coaccessible.ensures c.if-not-all_coaccessible.false
    (c.acyclic.ensures c.args.classes.now) c.if-not-acyclic.true

pub all_apart-requires : goal.all_apart-requires
all_apart-requires c = record {
  viewed = c.requires.viewed;
  count_value = c.requires.count_value;
  count_value_2 = sym c.all_coaccessible.ensures ∙ c.if-not-all_coaccessible.false;
}

pub returns-then-not-all_apart : goal.returns-then-not-all_apart
returns-then-not-all_apart c =
    refused-12 (viewed c.args.classes.now c.args.transitions.now c.args.n c.args.count)
    (c.reached.ensures c.args.classes.now) c.if-not-reached.false
    c.all_coaccessible.ensures c.if-not-all_coaccessible.false
    (c.acyclic.ensures c.args.classes.now) c.if-not-acyclic.false
    c.all_apart.ensures c.if-not-all_apart.true

pub returns-then-not-rule : goal.returns-then-not-rule
returns-then-not-rule c =
    refused-13 (viewed c.args.classes.now c.args.transitions.now c.args.n c.args.count)
    (c.reached.ensures c.args.classes.now) c.if-not-reached.false
    c.all_coaccessible.ensures c.if-not-all_coaccessible.false
    (c.acyclic.ensures c.args.classes.now) c.if-not-acyclic.false
    c.all_apart.ensures c.if-not-all_apart.false
    (c.ruled-rule.ensures.by_index c.args.classes.now) (search rules)

pub returns : goal.returns
returns c =
    not-refused (viewed c.args.classes.now c.args.transitions.now c.args.n c.args.count)
    (c.reached.ensures c.args.classes.now) c.if-not-reached.false
    c.all_coaccessible.ensures c.if-not-all_coaccessible.false
    (c.acyclic.ensures c.args.classes.now) c.if-not-acyclic.false
    c.all_apart.ensures c.if-not-all_apart.false
    (c.ruled-rule.ensures.by_index c.args.classes.now) (search rules)

use Rattle.std.proofs.Common.{rules}
use native.Mathlib.Omega.{arith}
use mathlib.Core.Path.{◌∙◌, refl}
use lib.ListN.{get_or}
use Rattle.table.specs.Layout.{transitions_in}
use Rattle.totals.specs.Numbers.{number_in}
use Rattle.trees.proofs.Suffixes.{passed}
use Rattle.ranks.proofs.NodePass.{pop-narrow, pop-room, push-room, ranking-end, ranking-next}
use Rattle.ranks.proofs.NodePass.{ranking-start}
use Rattle.ranks.proofs.Products.{over-stack}
use Rattle.ranks.proofs.ranking.rank_within.Goals as goal

pub loop-i-init : goal.loop-i-init
loop-i-init c =
    ranking-start (transitions_in c.args.transitions.now c.args.count)
    (number_in c.args.numbers.now)
    (passed c.args.tree.now c.requires.tree_value) c.args.reached.now refl

pub bounds-reached-i : goal.bounds-reached-i
bounds-reached-i c =
    let ok = passed c.args.tree.now c.requires.tree_value in
    omega (arith, c.loop-i.invariant.left, ok.short, c.loop-i-test.true)

pub sum_before-before-requires : goal.sum_before-before-requires
sum_before-before-requires c =
    let ok = passed c.args.tree.now c.requires.tree_value in
    let width = c.from-arity.ensures
    ∙ c.children_at.ensures in
    record {
      holds_transitions = c.requires.holds_transitions;
      stack_len = c.loop-i.invariant.stacked;
      arity_bound = omega (arith, pop-room ok c.loop-i.invariant (omega arith), width);
      arity_le_max_arity = omega (arith, pop-narrow ok c.loop-i.invariant (omega arith), width);
    }

pub product_of-weight-requires-clause-from_le_end : goal.product_of-weight-requires-clause-from_le_end
product_of-weight-requires-clause-from_le_end c =
    let ok = passed c.args.tree.now c.requires.tree_value in
    let width = c.from-arity.ensures ∙ c.children_at.ensures in
    omega (arith, pop-room ok c.loop-i.invariant (omega arith), width)

pub overflow_add-top-in-loop-i : goal.overflow_add-top-in-loop-i
overflow_add-top-in-loop-i c =
    let ok = passed c.args.tree.now c.requires.tree_value in
    let width = c.from-arity.ensures ∙ c.children_at.ensures in
    omega (arith, pop-room ok c.loop-i.invariant (omega arith), width)

pub overflow_sub-top : goal.overflow_sub-top
overflow_sub-top c =
    let ok = passed c.args.tree.now c.requires.tree_value in
    let width = c.from-arity.ensures ∙ c.children_at.ensures in
    omega (arith, push-room ok c.loop-i.invariant (omega arith), width)

pub bounds-stack-top : goal.bounds-stack-top
bounds-stack-top c =
    let ok = passed c.args.tree.now c.requires.tree_value in
    let width = c.from-arity.ensures ∙ c.children_at.ensures in
    omega (arith, pop-room ok c.loop-i.invariant (omega arith), push-room ok c.loop-i.invariant (omega arith), width)

pub loop-i-preserved : goal.loop-i-preserved
loop-i-preserved c =
    let ok = passed c.args.tree.now c.requires.tree_value in
    let width = c.from-arity.ensures ∙ c.children_at.ensures in
    let label = c.label_at-label.ensures.value in
    let stack = c.loop-i.stack in
    let weighed = over-stack _ stack _ _
    (c.product_of-weight.ensures (λ k. get_or stack k 0) (λ k l q h. search rules))
    (omega (arith, pop-room ok c.loop-i.invariant (omega arith), width, c.loop-i.invariant.stacked)) in
    rw width
    (ranking-next ok c.loop-i.invariant (omega arith) refl
    (rw (label, width, c.from.ensures) at c.sum_before-before.ensures)
    (rw width at weighed) c.times.ensures c.plus-number.ensures)

pub returns : goal.returns
returns c =
    let ok = passed c.args.tree.now c.requires.tree_value in
    λ A t H. ranking-end ok c.loop-i.invariant (omega arith) A t H

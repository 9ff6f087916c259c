use Rattle.trees.proofs.Suffixes.{passed}
use Rattle.subtrees.proofs.Collecting.{collecting-at, collecting-end, collecting-next}
use Rattle.subtrees.proofs.Collecting.{collecting-start, pop-children, pop-narrow, pop-room}
use Rattle.subtrees.proofs.Arrays.{filled_at}
use native.Mathlib.Omega.{arith}
use mathlib.Core.Path.{◌∙◌, refl}
use Rattle.subtrees.proofs.collect.Goals as goal

pub loop-i-init : goal.loop-i-init
loop-i-init c =
    collecting-start (passed c.args.tree.now c.requires.tree_value) c.args.reached.now c.requires.sized refl

pub popped-numbers-requires : goal.popped-numbers-requires
popped-numbers-requires c =
    let ok = passed c.args.tree.now c.requires.tree_value in
    let more = c.loop-i-test.true in
    let inv = c.loop-i.invariant in
    record {
      arity_bound = omega (arith, pop-room ok inv more, c.from-width.ensures);
      arity_le_max_arity = omega (arith, pop-narrow ok inv more, c.from-width.ensures);
    }

pub bounds-reached-i : goal.bounds-reached-i
bounds-reached-i c =
    let ok = passed c.args.tree.now c.requires.tree_value in
    omega (arith, c.loop-i.invariant.left, ok.short, c.loop-i-test.true)

pub enter-number-requires : goal.enter-number-requires
enter-number-requires c =
    let ok = passed c.args.tree.now c.requires.tree_value in
    let filled = filled_at c.popped-numbers.ensures (c.from-width.ensures ∙ c.children_at-arity.ensures) in
    let more = c.loop-i-test.true in
    let inv = c.loop-i.invariant in
    record {
      sized = inv.sized;
      found_lt_max_nodes = omega (arith, inv.room);
      label_le_max_label = c.label_at-label.ensures.upper_bound;
      children = rw c.children_at-arity.ensures (pop-children ok inv more filled);
    }

pub overflow_add-top : goal.overflow_add-top
overflow_add-top c =
    let ok = passed c.args.tree.now c.requires.tree_value in
    let more = c.loop-i-test.true in
    omega (arith, pop-room ok c.loop-i.invariant more, c.from-width.ensures)

pub bounds-stack-top : goal.bounds-stack-top
bounds-stack-top c =
    let ok = passed c.args.tree.now c.requires.tree_value in
    let more = c.loop-i-test.true in
    let inv = c.loop-i.invariant in
    omega (arith, pop-room ok inv more, inv.below, c.from-width.ensures)

pub loop-i-preserved : goal.loop-i-preserved
loop-i-preserved c =
    let ok = passed c.args.tree.now c.requires.tree_value in
    let label = c.label_at-label.ensures.value in
    let width = c.from-width.ensures ∙ c.children_at-arity.ensures in
    let filled = filled_at c.popped-numbers.ensures width in
    let more = c.loop-i-test.true in
    rw width
    (collecting-next ok c.loop-i.invariant more filled c.enter-number.ensures.number_given c.enter-number.ensures.sized_2 c.requires.held
    (rw (label, c.children_at-arity.ensures) at c.enter-number.ensures.entered))

pub returns : goal.returns
returns c =
    let ok = passed c.args.tree.now c.requires.tree_value in
    collecting-end ok (collecting-at c.loop-i.invariant 0 (omega arith))

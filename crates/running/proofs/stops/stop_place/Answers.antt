use mathlib.Core.Path.{◌∙◌, ap}
use native.Mathlib.Omega.{arith}
use lib.ListN.{get_or}
use Rattle.running.specs.Stopping.{walked}
use Rattle.trees.proofs.Suffixes.{passed}
use Rattle.running.proofs.Stopping.{first-node, next-node, walking-end, walking-next, walking_start}
use Rattle.running.proofs.stops.stop_place.Goals as goal

pub children_at-requires : goal.children_at-requires
children_at-requires c =
    let ok = passed c.args.tree.now c.requires.tree_value in omega (arith, first-node ok, ok.even)

pub loop-left-init : goal.loop-left-init
loop-left-init c =
    let ok = passed c.args.tree.now c.requires.tree_value in
    rw (c.from-left.ensures ∙ c.children_at.ensures) (walking_start ok c.args.states.now)

pub bounds-states-i : goal.bounds-states-i
bounds-states-i c =
    let ok = passed c.args.tree.now c.requires.tree_value in
    omega (arith, next-node ok c.loop-left-test.true c.loop-left.invariant, ok.short)

pub children_at-requires-in-loop-left : goal.children_at-requires-in-loop-left
children_at-requires-in-loop-left c =
    let ok = passed c.args.tree.now c.requires.tree_value in
    omega (arith, next-node ok c.loop-left-test.true c.loop-left.invariant, ok.even)

pub walked-below-requires : goal.walked-below-requires
walked-below-requires c =
    let ok = passed c.args.tree.now c.requires.tree_value in
    let inv = c.loop-left.invariant in
    let h = next-node ok c.loop-left-test.true inv in
    record {
      le_left = omega (arith, c.loop-left-test.true);
      left_bound = omega (arith, h, ok.short, inv.few);
      children_le_max_arity = omega (arith, ok.narrow _ h, c.from.ensures, c.children_at-in-loop-left.ensures);
    }

pub overflow_add-i : goal.overflow_add-i
overflow_add-i c =
    let ok = passed c.args.tree.now c.requires.tree_value in
    omega (arith, c.loop-left.invariant.within, ok.short)

pub loop-left-smaller : goal.loop-left-smaller
loop-left-smaller c =
    let ok = passed c.args.tree.now c.requires.tree_value in
    omega (arith, next-node ok c.loop-left-test.true c.loop-left.invariant)

pub loop-left-preserved : goal.loop-left-preserved
loop-left-preserved c =
    let ok = passed c.args.tree.now c.requires.tree_value in
    let at = c.loop-left in
    walking-next ok c.loop-left-test.true at.invariant c.walked-below.result
    (c.walked-below.ensures ∙ ap (walked at.stop at.left at.i (get_or c.args.states.now at.i 0))
    (c.from.ensures ∙ c.children_at-in-loop-left.ensures))

pub overflow_add-result : goal.overflow_add-result
overflow_add-result c =
    let ok = passed c.args.tree.now c.requires.tree_value in
    omega (arith, c.loop-left.invariant.within, c.loop-left.invariant.behind, ok.short)

pub overflow_cast-result : goal.overflow_cast-result
overflow_cast-result c =
    let ok = passed c.args.tree.now c.requires.tree_value in
    omega (arith, c.loop-left.invariant.within, c.loop-left.invariant.behind, ok.short)

pub returns : goal.returns
returns c = walking-end c.loop-left-test.false c.loop-left.invariant

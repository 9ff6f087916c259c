-- `change::work` meets its contract: refusal 16 by counting, then the change by names.
use mathlib.Core.Path.{refl}
use Prim.Native.Nat.{ℕ}
use native.Mathlib.Omega.{arith}
use borrow.Author.Rules.{rules}
use lib.ListN.{length-replicate}
use Rattle.format.specs.Format.{byte_values}
use Rattle.table.specs.Layout.{decode}
use Rattle.trees.specs.Listing.{read_tree}
use Rattle.change.proofs.Answering.{counted-few, worked-16}
use Rattle.change.proofs.Inputs.{given, given-over, given-setting, passed-size}
use Rattle.change.proofs.SubtreeStates.{states-counted}
use Rattle.change.proofs.work.Goals as goal

pub bounds-table-0 : goal.bounds-table-0
bounds-table-0 c =
    omega (arith, passed-size c.args.table.now c.requires.table_value)

pub transition_count-count-requires : goal.transition_count-count-requires
transition_count-count-requires c =
    passed-size c.args.table.now c.requires.table_value

pub collect-requires : goal.collect-requires
collect-requires c = record {
  tree_value = c.requires.tree_value;
  held = (decode c.args.table.now, c.requires.holds_states);
  sized = record { labels = refl; arities = refl; children = refl; states = refl };
}

pub slice_bounds-count_pairs-count : goal.slice_bounds-count_pairs-count
slice_bounds-count_pairs-count c =
    omega (arith, passed-size c.args.table.now c.requires.table_value)

pub slice_bounds-count_pairs-start : goal.slice_bounds-count_pairs-start
slice_bounds-count_pairs-start c =
    omega (arith, passed-size c.args.table.now c.requires.table_value)

pub count_pairs-requires : goal.count_pairs-requires
count_pairs-requires c =
    let g = given c.args.tree.now c.args.table.now c.requires.tree_value c.requires.table_value (search rules) (search rules)
    c.transition_count-count.result c.from-n.result c.transition_count-count.ensures.value
    c.from-n.ensures _ (c.collect.ensures (decode c.args.table.now) c.requires.holds_states) in
    record {
      holds_transitions = (given-over g).runs;
      m_le_max_nodes = g.lists.few;
      opens_len = length-replicate {A = ℕ} byte_values 0;
      weights_len = length-replicate {A = ℕ} byte_values 0;
    }

pub returns-then-not-count_pairs : goal.returns-then-not-count_pairs
returns-then-not-count_pairs c =
    let g = given c.args.tree.now c.args.table.now c.requires.tree_value c.requires.table_value (search rules) (search rules)
    c.transition_count-count.result c.from-n.result c.transition_count-count.ensures.value
    c.from-n.ensures _ (c.collect.ensures (decode c.args.table.now) c.requires.holds_states) in
    rw c.from.ensures (worked-16 c.args.inserting (read_tree c.args.tree.now) c.args.table.now
    (c.count_pairs.ensures.pairs_counted (decode c.args.table.now) (read_tree c.args.tree.now)
    (given-setting g) (states-counted g.lists)) c.if-not-count_pairs.true)

pub apply-requires : goal.apply-requires
apply-requires c =
    let g = given c.args.tree.now c.args.table.now c.requires.tree_value c.requires.table_value (search rules) (search rules)
    c.transition_count-count.result c.from-n.result c.transition_count-count.ensures.value
    c.from-n.ensures _ (c.collect.ensures (decode c.args.table.now) c.requires.holds_states) in
    record {
      some_given = (read_tree c.args.tree.now, g);
      scratch_len = c.requires.scratch_len;
      pairs_counted = λ t h. counted-few
          (c.count_pairs.ensures.pairs_counted (decode c.args.table.now) t (given-setting h)
          (states-counted h.lists)) c.if-not-count_pairs.false;
    }

pub returns : goal.returns
returns c =
    let g = given c.args.tree.now c.args.table.now c.requires.tree_value c.requires.table_value (search rules) (search rules)
    c.transition_count-count.result c.from-n.result c.transition_count-count.ensures.value
    c.from-n.ensures _ (c.collect.ensures (decode c.args.table.now) c.requires.holds_states) in
    c.apply.ensures (read_tree c.args.tree.now) g

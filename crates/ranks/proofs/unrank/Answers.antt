-- `ranks::unrank` meets its contract: the tree that is listed is the one of the number.
use native.Mathlib.Omega.{arith}
use mathlib.Core.Path.{◌∙◌, refl, sym}
use Rattle.fields.proofs.Transitions.{part_body}
use Rattle.totals.proofs.Passed.{passed_length, passed-seen}
use Rattle.ranks.proofs.Tables.{numbers-lawful, table-listed, total-seen}
use borrow.Author.Rules.{rules}
use Rattle.ranks.proofs.unrank.Goals as goal

pub transition_count-count-requires : goal.transition_count-count-requires
transition_count-count-requires c =
    passed_length c.args.table.now c.requires.table_value

pub bounds-table-0 : goal.bounds-table-0
bounds-table-0 c =
    omega (arith, passed_length c.args.table.now c.requires.table_value)

pub choose_state-choice-requires : goal.choose_state-choice-requires
choose_state-choice-requires c =
    let b = c.args.table.now in
    let seen = passed-seen b refl c.from-n.ensures c.requires.table_value in
    record {
      n_in_bounds = seen.0.classes;
      n_lt_byte_values = omega (arith, seen.0.states);
      number_bound = rw c.from-n.ensures (total-seen b c.requires.table_value c.requires.numbers_of c.requires.table_bound c.args.number c.requires.number_bound);
    }

pub slice_bounds-list_tree-count : goal.slice_bounds-list_tree-count
slice_bounds-list_tree-count c =
    omega (arith, passed_length c.args.table.now c.requires.table_value)

pub slice_bounds-list_tree-start : goal.slice_bounds-list_tree-start
slice_bounds-list_tree-start c =
    let h = passed_length c.args.table.now c.requires.table_value in search rules

pub list_tree-requires : goal.list_tree-requires
list_tree-requires c =
    let b = c.args.table.now in
    let count = c.transition_count-count.ensures.value in
    let seen = passed-seen b count c.from-n.ensures c.requires.table_value in
    record {
      holds_transitions_over = seen.0.over;
      n_lt_byte_values = omega (arith, seen.0.states);
      lawful = rw (part_body b, count, c.from-n.ensures) (numbers-lawful b c.requires.table_value c.requires.numbers_of c.requires.table_bound);
      le_q = c.choose_state-choice.ensures.some;
      q_le_n = c.choose_state-choice.ensures.state;
      number_bound = c.choose_state-choice.ensures.below;
      bytes_value = refl;
    }

pub returns-then-not-list_tree : goal.returns-then-not-list_tree
returns-then-not-list_tree c =
    let listed = table-listed c.args.table.now c.requires.table_value c.requires.numbers_of c.requires.table_bound
    c.transition_count-count.ensures.value c.from-n.ensures
    c.choose_state-choice.ensures
    c.list_tree.ensures.by_index in
    record { value = sym c.if-not-list_tree.true ∙ listed.fits; listing_after = refl }

pub copy_from_slice-requires : goal.copy_from_slice-requires
copy_from_slice-requires c = c.requires.listing_len ∙ sym c.list_tree.ensures.bytes_len

pub returns : goal.returns
returns c =
    let listed = table-listed c.args.table.now c.requires.table_value c.requires.numbers_of c.requires.table_bound
    c.transition_count-count.ensures.value c.from-n.ensures
    c.choose_state-choice.ensures
    c.list_tree.ensures.by_index in
    let yes = c.if-not-list_tree.false in
    record { value = sym yes ∙ listed.fits; listing_after = c.copy_from_slice.ensures.after ∙ listed.written yes }

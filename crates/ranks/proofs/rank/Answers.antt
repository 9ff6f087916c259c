-- `ranks::rank` meets its contract: the trees of accepting states before its own, then those before it in its state.
use native.Mathlib.Omega.{arith}
use mathlib.Core.Path.{◌∙◌, ◌≡◌, ap, ap₂, refl, sym}
use Rattle.std.specs.declared.option.Option.TheVariants.{Some}
use Rattle.fields.proofs.Transitions.{part_body}
use Rattle.running.proofs.Tables.{root-byte}
use Rattle.automata.specs.Ranks.{rank}
use Rattle.table.specs.Layout.{decode, transitions_in}
use Rattle.totals.specs.Limited.{worth}
use Rattle.totals.proofs.Passed.{passed_length, passed-seen}
use Rattle.trees.specs.Listing.{read_tree}
use Rattle.ranks.proofs.Tables.{decoded-transitions, rank-fits, root-some, root-state}
use borrow.Author.Rules.{rules}
use Rattle.ranks.proofs.rank.Goals.{After-plus}
use Rattle.ranks.proofs.rank.Goals as goal

pub transition_count-count-requires : goal.transition_count-count-requires
transition_count-count-requires c =
    passed_length c.args.table.now c.requires.table_value

pub overflow_sub-q : goal.overflow_sub-q
overflow_sub-q c =
    omega (
      arith,
      c.from-q.ensures,
      root-byte c.requires.holds_states,
      root-some c.args.table.now c.requires.table_value c.requires.numbers_of c.requires.table_bound
          (read_tree c.args.tree.now) c.requires.tree_value_2,
    )

pub sum_accepting-before-requires : goal.sum_accepting-before-requires
sum_accepting-before-requires c =
    let b = c.args.table.now in
    let seen = passed-seen b refl refl c.requires.table_value in
    let state = root-state b c.requires.table_value c.requires.numbers_of c.requires.table_bound (read_tree c.args.tree.now)
    c.requires.tree_value_2 in
    let e = c.from-q.ensures ∙ root-byte c.requires.holds_states in
    record {
      n_in_bounds = omega (arith, seen.0.classes);
      n_lt_byte_values = omega (arith, seen.0.states);
    }

pub slice_bounds-rank_within-count : goal.slice_bounds-rank_within-count
slice_bounds-rank_within-count c =
    omega (arith, passed_length c.args.table.now c.requires.table_value)

pub slice_bounds-rank_within-start : goal.slice_bounds-rank_within-start
slice_bounds-rank_within-start c =
    let h = passed_length c.args.table.now c.requires.table_value in search rules

pub rank_within-within-requires : goal.rank_within-within-requires
rank_within-within-requires c =
    let count = c.transition_count-count.ensures.value in
    record {
      tree_value = c.requires.tree_value;
      holds_transitions = (passed-seen c.args.table.now count refl c.requires.table_value).0.over.runs;
    }

-- the sum is the tree's number
summed : (c : After-plus) → c.plus.result ≡ Some (rank (decode c.args.table.now) (read_tree c.args.tree.now))
summed c =
    let b = c.args.table.now in
    let count = c.transition_count-count.ensures.value in
    rank-fits b c.requires.table_value c.requires.numbers_of c.requires.table_bound (read_tree c.args.tree.now) c.requires.tree_value_2
    (c.from-q.ensures ∙ root-byte c.requires.holds_states)
    c.sum_accepting-before.ensures
    (c.rank_within-within.ensures (decode b)
    (decoded-transitions b ∙ sym (ap₂ transitions_in (part_body b) count)) c.requires.holds_states)
    c.plus.ensures

pub unwrap-requires : goal.unwrap-requires
unwrap-requires c = rw (summed (goal.at.unwrap-requires c).After-plus) refl

pub returns : goal.returns
returns c = ap worth (sym c.unwrap.ensures ∙ summed (goal.at.returns c).After-plus)

-- `totals::state_numbers` meets its contract: a table that passed its check shows its own automaton.
use mathlib.Core.Path.{subst}
use native.Mathlib.Omega.{arith}
use Rattle.automata.specs.Automaton.{Automaton}
use Rattle.totals.specs.Numbers.{NumbersOf}
use Rattle.totals.proofs.Passed.{passed_length, passed-seen, seen-decoded}
use borrow.Author.Rules.{rules}
use Rattle.totals.proofs.state_numbers.Goals as goal

pub transition_count-count-requires : goal.transition_count-count-requires
transition_count-count-requires c = passed_length c.args.table.now c.requires

pub bounds-table-0 : goal.bounds-table-0
bounds-table-0 c =
    omega (arith, passed_length c.args.table.now c.requires)

pub slice_bounds-numbers_of-count : goal.slice_bounds-numbers_of-count
slice_bounds-numbers_of-count c =
    omega (arith, passed_length c.args.table.now c.requires)

pub slice_bounds-numbers_of-start : goal.slice_bounds-numbers_of-start
slice_bounds-numbers_of-start c =
    let h = passed_length c.args.table.now c.requires in search rules

pub numbers_of-requires : goal.numbers_of-requires
numbers_of-requires c =
    let seen = passed-seen c.args.table.now c.transition_count-count.ensures.value
    c.from-n.ensures c.requires in
    record {
      holds_transitions_over = seen.0.over;
      count_value = seen.1.0;
      count_le_max_transitions = seen.1.1.0;
      n_lt_byte_values = omega (arith, seen.0.states);
    }

pub returns : goal.returns
returns c =
    let b = c.args.table.now in
    let count = c.transition_count-count.ensures.value in
    subst (λ (A : Automaton). NumbersOf A c.numbers_of.result) (seen-decoded b count c.from-n.ensures)
    (c.numbers_of.ensures b (passed-seen b count c.from-n.ensures c.requires).1.1.1)

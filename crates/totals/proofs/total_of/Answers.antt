-- `totals::total_of` meets its contract: the numbers of the accepting states are those of their trees.
use mathlib.Core.Path.{refl}
use native.Mathlib.Omega.{arith}
use Rattle.totals.proofs.Passed.{passed_length, passed-seen, passed-total}
use Rattle.totals.proofs.total_of.Goals as goal

pub bounds-table-0 : goal.bounds-table-0
bounds-table-0 c =
    omega (arith, passed_length c.args.table.now c.requires.table_value)

pub sum_accepting-requires : goal.sum_accepting-requires
sum_accepting-requires c =
    let seen = passed-seen c.args.table.now refl c.from-n.ensures c.requires.table_value in
    record { n_in_bounds = seen.0.classes; n_lt_byte_values = omega (arith, seen.0.states) }

pub returns : goal.returns
returns c =
    passed-total c.args.table.now c.requires.table_value c.from-n.ensures c.requires.numbers_of
    c.sum_accepting.ensures

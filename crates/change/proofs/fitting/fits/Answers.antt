-- `change::fitting::fits` meets its contract: the counts say whether the changed automaton is within the limit.
use native.Mathlib.Omega.{arith}
use Rattle.naming.specs.Choice.{name_in}
use Rattle.subtrees.specs.Store.{bottom_up}
use Rattle.table.specs.Layout.{decode}
use Rattle.change.proofs.Handing.{named-arrays}
use Rattle.change.proofs.Inputs.{given-over, given-size}
use Rattle.change.proofs.Sizes.{counts-fit}
use Rattle.change.proofs.fitting.fits.Goals as goal

pub slice_bounds-table_fits-count : goal.slice_bounds-table_fits-count
slice_bounds-table_fits-count c = omega (arith, given-size c.requires.some_given.1)

pub slice_bounds-table_fits-start : goal.slice_bounds-table_fits-start
slice_bounds-table_fits-start c = omega (arith, given-size c.requires.some_given.1)

pub table_fits-requires : goal.table_fits-requires
table_fits-requires c = record {
  holds_transitions = (given-over c.requires.some_given.1).runs;
  max_nodes_le_limit = c.requires.max_nodes_le_limit;
  limit_le_max_transitions = c.requires.limit_le_max_transitions;
}

pub returns : goal.returns
returns c =
    λ inserting t firsts nexts N K. counts-fit N c.args.limit (c.table_fits.ensures
    (decode c.args.table.now) t (name_in (bottom_up t) c.args.named.now.names.now) firsts nexts (named-arrays N)
    K)

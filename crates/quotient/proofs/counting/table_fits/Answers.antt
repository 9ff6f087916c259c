-- `quotient::counting::table_fits` meets its contract: the numbers counted are those of the definition.
use native.Mathlib.Omega.{arith}
use Rattle.quotient.specs.Named.{adds, takes_away}
use Rattle.quotient.proofs.CountLink.{fits_not, fits_sum}
use Rattle.quotient.proofs.Tallies.{tally-few}
use Rattle.quotient.proofs.counting.table_fits.Goals as goal

pub returns-then-count_kept-gt-MAX_STATES : goal.returns-then-count_kept-gt-MAX_STATES
returns-then-count_kept-gt-MAX_STATES c = λ A t ν firsts nexts H K. fits_not H _ c.count_kept.ensures (omega arith)

pub overflow_add-limit : goal.overflow_add-limit
overflow_add-limit c =
    omega (
      arith,
      c.count_gone-gone.ensures,
      (tally-few (takes_away c.args.named.now) 0 c.args.named.now.subtrees.now.count),
      c.args.named.now.nodes.few,
      c.requires.limit_le_max_transitions,
    )

pub sum_fits-requires : goal.sum_fits-requires
sum_fits-requires c = record {
  holds_transitions = c.requires.holds_transitions;
  more_le_limit = omega (
    arith,
    c.count_new-new.ensures,
    (tally-few (adds c.args.named.now) 0 c.args.named.now.subtrees.now.count),
    c.args.named.now.nodes.few,
    c.requires.max_nodes_le_limit,
  );
  limit_le_max_product = omega (
    arith,
    c.count_gone-gone.ensures,
    (tally-few (takes_away c.args.named.now) 0 c.args.named.now.subtrees.now.count),
    c.args.named.now.nodes.few,
    c.requires.limit_le_max_transitions,
  );
}

pub returns : goal.returns
returns c =
    let count-kept-call = c.count_kept in
    let limit = c.args.limit in
    λ A t ν firsts nexts H K. fits_sum H limit count-kept-call.ensures (omega arith)
    c.count_new-new.ensures c.count_gone-gone.ensures K c.sum_fits.ensures

-- `validity::ranks::depth_first` is safe and ends. Nothing is promised of its ranks.
use Rattle.std.proofs.Common.{ℕ, arith}
use lib.ListN.{length-replicate}
use Rattle.format.specs.Format.{byte_values}
use Rattle.validity.proofs.ranks.depth_first.Goals as goal

pub rank_all-requires : goal.rank_all-requires
rank_all-requires c = record {
  holds_transitions = c.requires.holds_transitions;
  n_bound = c.requires.n_bound;
  first_len = c.link.ensures.first_len_2;
  ranks_len = length-replicate {A = ℕ} byte_values 0;
  count_le_max_transitions = omega (arith, c.if-count-gt-MAX_TRANSITIONS.false);
}

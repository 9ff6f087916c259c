-- `pairs::count_pairs` meets its contract: the sum is the number of transitions of the product.
use native.Mathlib.Omega.{arith}
use Rattle.pairs.proofs.Fitting.{few-counted, pairs-counted, subtrees-counted}
use Rattle.pairs.proofs.count_pairs.Goals as goal

pub weigh-requires : goal.weigh-requires
weigh-requires c = record {
  by_index = few-counted c.count_states.ensures c.requires.m_le_max_nodes;
  weights_len = c.requires.weights_len;
}

pub sum_fits-requires : goal.sum_fits-requires
sum_fits-requires c = record {
  holds_transitions = c.requires.holds_transitions;
  more_le_limit = omega (
    arith,
    c.from-stateless.ensures,
    few-counted c.count_states.ensures c.requires.m_le_max_nodes 0 (omega arith),
  );
  limit_le_max_product = omega arith;
}

pub returns : goal.returns
returns c = record {
  pairs_counted = λ A t S e.
      let C = subtrees-counted c.count_states.ensures c.requires.m_le_max_nodes e in
      pairs-counted S C (c.open_states.ensures.fact A t S C) c.weigh.ensures c.from-stateless.ensures c.sum_fits.ensures;
  opens_len_2 = c.open_states.ensures.marks_len_2;
  weights_len_2 = c.weigh.ensures.size;
}

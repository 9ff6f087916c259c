use Prim.Native.Nat.{ℕ}
use native.Mathlib.Omega.{arith}
use lib.ListN.{length-replicate}
use Rattle.format.specs.Format.{byte_values}
use Rattle.lists.proofs.Filling.{filled_next, filled-start}
use Rattle.partition.proofs.Filling.{keys-end}
use Rattle.partition.proofs.repairing.part_keys.Goals as goal

pub loop-q-init : goal.loop-q-init
loop-q-init c = filled-start (length-replicate {A = ℕ} byte_values 0)

pub part_key-requires : goal.part_key-requires
part_key-requires c = record {
  sorted = c.requires.sorted;
  holds_transitions_over = c.requires.holds_transitions_over;
  n_bound = c.requires.n_bound;
  i_lt_count = c.requires.i_lt_count;
  k_bound = c.requires.k_bound;
  q_bound = omega (arith, c.requires.n_bound);
}

pub loop-q-preserved : goal.loop-q-preserved
loop-q-preserved c =
    filled_next c.loop-q.invariant (omega (arith, c.requires.n_bound)) c.part_key.ensures

pub returns : goal.returns
returns c = keys-end c.loop-q.invariant (omega arith)

-- `change::fallback::write_scratch` meets its contract: the transitions between names as bytes.
use native.Mathlib.Omega.{arith}
use Rattle.change.proofs.Runs.{run-put}
use Rattle.change.proofs.fallback.write_scratch.Goals as goal

pub make_all-made-requires : goal.make_all-made-requires
make_all-made-requires c = record {
  some_fitting = (c.requires.some_fitting.0, c.requires.some_fitting.1, c.requires.some_fitting.2, c.requires.some_fitting.3, c.requires.some_fitting.4, omega (arith, c.requires.some_fitting.5));
  room = record {
    args = omega arith;
    few = omega arith;
  };
}

pub write_run-requires : goal.write_run-requires
write_run-requires c =
    let P = c.make_all-made.ensures c.requires.some_fitting.0 c.requires.some_fitting.1 c.requires.some_fitting.2 c.requires.some_fitting.3 c.requires.some_fitting.4 in
    record {
      start_le_head_bytes = omega arith;
      count_in_bounds = omega (arith, P.holds.few, P.holds.room.few, c.requires.scratch_len);
    }

pub invariant_of-transitions : goal.invariant_of-transitions
invariant_of-transitions c =
    let P = c.make_all-made.ensures c.requires.some_fitting.0 c.requires.some_fitting.1 c.requires.some_fitting.2 c.requires.some_fitting.3 c.requires.some_fitting.4 in
    record { holds = P.holds }

pub returns : goal.returns
returns c =
    λ inserting t o cl F. let K = c.make_all-made.ensures inserting t o cl F in run-put K.holds
    c.write_run.ensures c.requires.scratch_len F.named K

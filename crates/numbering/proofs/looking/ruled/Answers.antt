use native.Mathlib.Omega.{arith}
use lib.ListN.{length-replicate}
use Prim.Native.Nat.{ℕ}
use Rattle.format.specs.Format.{byte_values}
use Rattle.validity.proofs.Passing.{spans-none}
use Rattle.numbering.proofs.Passes.{pass_below, pass-start}
use Rattle.numbering.proofs.looking.ruled.Goals as goal

pub loop-i-init : goal.loop-i-init
loop-i-init c = record {
  low = omega arith;
  size = length-replicate {A = ℕ} byte_values 0;
  passed = pass-start c.args.transitions.now.heads.now c.args.transitions.now.args.now;
  spans = spans-none;
  all_seen = λ q a b. absurd (omega arith);
}

pub loop-i-preserved-then-out_of-low : goal.loop-i-preserved-then-out_of-low
loop-i-preserved-then-out_of-low c = let v = c.loop-i.invariant in record {
  low = v.low;
  size = v.size;
  passed = pass_below c.args.transitions.now.heads.now c.args.transitions.now.args.now c.loop-i.i c.loop-i.seen v.passed
      c.loop-i.low v.all_seen (omega (arith, c.out_of.ensures.value));
  spans = v.spans;
  all_seen = v.all_seen;
}

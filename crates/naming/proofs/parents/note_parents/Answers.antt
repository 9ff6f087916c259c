use lib.ListN.{length-replicate}
use Rattle.lists.proofs.Intervals.{get_d-zeros}
use Prim.Native.Nat.{ℕ}
use native.Mathlib.Omega.{arith}
use Rattle.format.specs.Format.{max_nodes}
use Rattle.naming.proofs.Spans.{noted-spans}
use Rattle.naming.proofs.parents.note_parents.Goals as goal

pub loop-i-init : goal.loop-i-init
loop-i-init c = (
  omega arith,
  record {
    sizes = (length-replicate {A = ℕ} max_nodes 0, length-replicate {A = ℕ} max_nodes 0);
    low = λ x. omega (arith, get_d-zeros max_nodes x);
    known = λ x. omega (arith, get_d-zeros max_nodes x);
    above = λ x k g. absurd (omega arith);
    below = λ x k g. absurd (omega arith);
  },
)

pub returns : goal.returns
returns c =
    let now = c.loop-i in
    noted-spans c.args.setting.now.shaped now.invariant.0 (omega (arith, c.loop-i-test.false)) now.invariant.1

use native.Mathlib.Omega.{arith}
use Rattle.fields.proofs.Transitions.{readable}
use Rattle.pairs.proofs.Summing.{sums-end, sums_next, sums-start}
use Rattle.pairs.proofs.sums.sums_into.Goals as goal

pub loop-i-init : goal.loop-i-init
loop-i-init c = sums-start c.requires.sums_value

pub add_product-requires : goal.add_product-requires
add_product-requires c =
    let now = c.loop-i in
    record {
      readable = readable c.requires.holds_transitions now.i (omega arith);
      sums_len = now.invariant.size;
    }

pub loop-i-preserved : goal.loop-i-preserved
loop-i-preserved c = sums_next c.loop-i.invariant (omega arith) c.add_product.ensures

pub returns : goal.returns
returns c = sums-end c.loop-i.invariant (omega arith)

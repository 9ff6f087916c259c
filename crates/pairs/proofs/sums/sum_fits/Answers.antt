use mathlib.Core.Path.{refl}
use native.Mathlib.Omega.{arith}
use Rattle.fields.proofs.Transitions.{readable}
use Rattle.pairs.proofs.Summing.{sum-end, sum-next, sum_over_lem, sum-start}
use Rattle.pairs.proofs.sums.sum_fits.Goals as goal

pub loop-i-init : goal.loop-i-init
loop-i-init c = sum-start c.requires.more_le_limit

pub product-sum-requires : goal.product-sum-requires
product-sum-requires c = readable c.requires.holds_transitions c.loop-i.i (omega arith)

pub overflow_add-sum : goal.overflow_add-sum
overflow_add-sum c = omega (arith, c.loop-i.invariant.small, c.product-sum.ensures, c.requires.limit_le_max_product)

pub returns-then-sum-limit : goal.returns-then-sum-limit
returns-then-sum-limit c = sum_over_lem c.requires.limit_le_max_product c.loop-i.invariant (omega arith) c.product-sum.ensures (omega arith)

pub loop-i-preserved : goal.loop-i-preserved
loop-i-preserved c =
    sum-next c.requires.limit_le_max_product c.loop-i.invariant (omega arith) c.product-sum.ensures refl (omega arith)

pub returns : goal.returns
returns c = sum-end c.loop-i.invariant (omega arith)

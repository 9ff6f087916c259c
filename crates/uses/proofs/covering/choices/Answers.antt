use Prim.Native.Nat.{◌≤◌}
use native.Mathlib.Nat.{mul-le-mul}
use native.Mathlib.Omega.{arith}
use Rattle.uses.proofs.Counting.{product-end, product-next, product-start}
use Rattle.uses.proofs.covering.choices.Goals as goal

pub loop-x-init : goal.loop-x-init
loop-x-init c = (c.arity_of-arity.ensures, product-start)

pub overflow_mul-product : goal.overflow_mul-product
overflow_mul-product c =
    let h : c.factor.result ≤ 255 = omega (arith, c.factor.ensures.upper_bound) in let l = mul-le-mul c.loop-x.invariant.1.small h in omega arith

pub loop-x-preserved : goal.loop-x-preserved
loop-x-preserved c =
    (c.loop-x.invariant.0, product-next c.loop-x.invariant.1 (omega (arith, c.loop-x.invariant.0)) c.factor.ensures.value c.capped-product.ensures)

pub returns : goal.returns
returns c =
    product-end c.loop-x.invariant.1 (omega (arith, c.loop-x.invariant.0))

use Prim.Native.Nat.{◌≤◌}
use native.Mathlib.Nat.{mul-le-mul}
use native.Mathlib.Omega.{arith}
use Rattle.pairs.proofs.Products.{product-end, product-next, product-none, product-start}
use Rattle.pairs.proofs.sums.multiplied.Goals as goal

pub loop-k-init : goal.loop-k-init
loop-k-init c = (c.arity_of-arity.ensures, product-start)

pub returns-then-number-eq0 : goal.returns-then-number-eq0
returns-then-number-eq0 c =
    product-none c.loop-k.invariant.1 (omega arith) c.arg_of-q.ensures.value
    c.from-number.ensures (omega arith)

pub overflow_mul-product : goal.overflow_mul-product
overflow_mul-product c =
    let h : c.from-number.result ≤ 255 = omega (arith, c.from-number.ensures, c.fits-numbers c.arg_of-q.result) in
    let l = mul-le-mul c.loop-k.invariant.1.small h in
    omega arith

pub loop-k-preserved : goal.loop-k-preserved
loop-k-preserved c = (
  c.loop-k.invariant.0,
  product-next c.loop-k.invariant.1 (omega arith) c.arg_of-q.ensures.value
      c.from-number.ensures c.capped-product.ensures,
)

pub returns : goal.returns
returns c = product-end c.loop-k.invariant.1 (omega arith)

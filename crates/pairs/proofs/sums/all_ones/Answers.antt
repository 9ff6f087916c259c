use mathlib.Core.Bool.{false≢true}
use mathlib.Core.Path.{refl}
use native.Mathlib.Omega.{arith}
use Rattle.pairs.proofs.Products.{product-end, product-next, product-start}
use Rattle.pairs.proofs.sums.all_ones.Goals as goal

pub loop-k-init : goal.loop-k-init
loop-k-init c = (c.arity_of-arity.ensures, product-start)

pub returns-then-numbers-q-ne1 : goal.returns-then-numbers-q-ne1
returns-then-numbers-q-ne1 c = λ e. absurd (false≢true e)

pub loop-k-preserved : goal.loop-k-preserved
loop-k-preserved c = (
  c.loop-k.invariant.0,
  product-next {x = 1} c.loop-k.invariant.1 (omega arith) c.arg_of-q.ensures.value (omega arith) refl,
)

pub returns : goal.returns
returns c h = product-end c.loop-k.invariant.1 (omega arith)

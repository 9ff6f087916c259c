use native.Mathlib.Omega.{arith}
use mathlib.Core.Path.{◌∙◌, ap}
use Rattle.totals.specs.Numbers.{number_in}
use Rattle.totals.proofs.Sums.{product-end, product-next, product-start}
use Rattle.totals.proofs.Tables.{number-at}
use Rattle.totals.proofs.rounds.product.Goals as goal

pub loop-k-init : goal.loop-k-init
loop-k-init c = (c.arity_of-arity.ensures, product-start)

pub loop-k-preserved : goal.loop-k-preserved
loop-k-preserved c = (
  c.loop-k.invariant.0,
  product-next c.loop-k.invariant.1 (omega arith)
      (number-at c.args.numbers.now c.arg_of-q.result ∙ ap (number_in c.args.numbers.now) c.arg_of-q.ensures.value)
      c.times-number.ensures,
)

pub returns : goal.returns
returns c = product-end c.loop-k.invariant.1 (omega arith)

use Prim.Native.Nat.{◌-◌}
use native.Mathlib.Omega.{arith}
use mathlib.Core.Path.{◌∙◌, ap, refl}
use Rattle.totals.specs.Numbers.{number_in}
use Rattle.totals.proofs.Tables.{number-at}
use Rattle.ranks.proofs.Products.{from_end, from_next, from_start}
use Rattle.ranks.proofs.weights.product_of.Goals as goal

pub loop-k-init : goal.loop-k-init
loop-k-init g c = (c.requires.from_le_end, λ f h. from_start refl)

pub bounds-numbers-state : goal.bounds-numbers-state
bounds-numbers-state g c = c.requires.upper_bound (c.loop-k.k - 1) (omega arith) c.state.result c.state.ensures

pub loop-k-preserved : goal.loop-k-preserved
loop-k-preserved g c = (
  omega arith,
  λ f h. from_next (c.loop-k.invariant.1 f h) (omega arith)
      (number-at c.args.numbers.now c.state.result
      ∙ ap (number_in c.args.numbers.now) (h (c.loop-k.k - 1) (omega arith) c.state.result c.state.ensures))
      c.times-number.ensures,
)

pub returns : goal.returns
returns g c = λ f h. from_end (c.loop-k.invariant.1 f h) (omega arith)

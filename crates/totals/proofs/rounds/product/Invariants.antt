-- `totals::rounds::product` meets its contract: the number is the product over the arguments before `k`.
use mathlib.Core.Path.{◌≡◌}
use Rattle.table.specs.Layout.{arity_of}
use Rattle.totals.specs.Numbers.{number_in}
use Rattle.totals.proofs.Sums.{ProductTo}
use Rattle.totals.proofs.rounds.product.Given as goal

abbrev pub invariant-loop-k : goal.invariant-loop-k
invariant-loop-k l = (l.arity ≡ arity_of l.transitions l.at) × ProductTo (number_in l.numbers) l.transitions l.at l.k l.number

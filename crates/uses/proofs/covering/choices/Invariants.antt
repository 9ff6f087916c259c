-- In the loop the product so far times the product of the rest is the whole.
use mathlib.Core.Path.{◌≡◌}
use Rattle.table.specs.Layout.{arity_of}
use Rattle.uses.specs.Uses.{factor_at, product_at}
use Rattle.uses.proofs.Counting.{ProductFrom}
use Rattle.uses.proofs.covering.choices.Given as goal

abbrev pub invariant-loop-x : goal.invariant-loop-x
invariant-loop-x l = (l.arity ≡ arity_of l.transitions l.at) × ProductFrom (product_at l.weights l.transitions l.at l.k) (factor_at l.weights l.transitions l.at l.k) (arity_of l.transitions l.at) l.product l.x

-- `pairs::sums::multiplied` meets its contract: the product so far times the product of the rest is the whole.
use mathlib.Core.Path.{◌≡◌}
use Rattle.table.specs.Layout.{arity_of}
use Rattle.pairs.specs.Counts.{entry}
use Rattle.pairs.proofs.Products.{ProductFrom}
use Rattle.pairs.proofs.sums.multiplied.Given as goal

abbrev pub invariant-loop-k : goal.invariant-loop-k
invariant-loop-k l = (l.arity ≡ arity_of l.transitions l.at) × ProductFrom (entry l.numbers) l.transitions l.at l.product l.k

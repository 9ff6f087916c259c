-- `pairs::sums::all_ones` meets its contract: the product over the arguments read is 1.
use mathlib.Core.Path.{◌≡◌}
use Rattle.table.specs.Layout.{arity_of}
use Rattle.pairs.specs.Counts.{entry}
use Rattle.pairs.proofs.Products.{ProductFrom}
use Rattle.pairs.proofs.sums.all_ones.Given as goal

abbrev pub invariant-loop-k : goal.invariant-loop-k
invariant-loop-k l = (l.arity ≡ arity_of l.transitions l.at) × ProductFrom (entry l.numbers) l.transitions l.at 1 l.k

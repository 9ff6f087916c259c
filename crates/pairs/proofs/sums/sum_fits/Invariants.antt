-- `pairs::sums::sum_fits` meets its contract: the sum so far and the sum of the rest are the whole.
use Rattle.pairs.specs.Counts.{entry}
use Rattle.pairs.proofs.Summing.{SumFrom}
use Rattle.pairs.proofs.sums.sum_fits.Given as goal

abbrev pub invariant-loop-i : goal.invariant-loop-i
invariant-loop-i l = SumFrom (entry l.numbers) l.transitions l.count l.more l.limit l.sum l.i

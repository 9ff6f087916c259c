-- `pairs::sums::sums_into` meets its contract: the sums so far and the sums of the rest are the whole.
use Rattle.pairs.specs.Counts.{entry}
use Rattle.pairs.proofs.Summing.{SumsFrom}
use Rattle.pairs.proofs.sums.sums_into.Given as goal

abbrev pub invariant-loop-i : goal.invariant-loop-i
invariant-loop-i l = SumsFrom (entry l.numbers) l.transitions l.count l.sums l.i

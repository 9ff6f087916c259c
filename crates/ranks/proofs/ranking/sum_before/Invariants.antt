-- `ranks::ranking::sum_before` meets its contract: what is left to count stands from `i` on.
use lib.ListN.{drop, take}
use Rattle.totals.specs.Numbers.{number_in}
use Rattle.ranks.proofs.Before.{CountedTo}
use Rattle.ranks.proofs.ranking.sum_before.Given as goal

abbrev pub invariant-loop-i : goal.invariant-loop-i
invariant-loop-i l = CountedTo (number_in l.numbers) l.q l.label (take l.arity (drop l.top l.stack)) l.transitions l.count l.i l.sum

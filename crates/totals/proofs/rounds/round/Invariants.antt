-- `totals::rounds::round` meets its contract: the sums are those over the transitions before `i`.
use Rattle.table.specs.Layout.{transitions_in}
use Rattle.totals.specs.Numbers.{Sums, number_in}
use Rattle.totals.proofs.rounds.round.Given as goal

abbrev pub invariant-loop-i : goal.invariant-loop-i
invariant-loop-i l = Sums (number_in l.numbers) (transitions_in l.transitions l.i) l.sums

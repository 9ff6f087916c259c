-- `totals::sum_accepting` meets its contract: the sum is that of the states before `q`.
use mathlib.Core.List.{[]}
use Rattle.fields.specs.View.{viewed}
use Rattle.totals.specs.Numbers.{number_in}
use Rattle.totals.proofs.Accepting.{AcceptedTo}
use Rattle.totals.proofs.sum_accepting.Given as goal

abbrev pub invariant-loop-q : goal.invariant-loop-q
invariant-loop-q l = AcceptedTo (viewed l.classes [] l.n 0) (number_in l.numbers) l.q l.sum

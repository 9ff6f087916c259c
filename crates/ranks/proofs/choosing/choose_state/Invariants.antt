-- `ranks::choosing::choose_state` meets its contract: the choice is that for what is left, from `q` on.
use mathlib.Core.List.{[]}
use Rattle.fields.specs.View.{viewed}
use Rattle.totals.specs.Numbers.{number_in}
use Rattle.ranks.proofs.Places.{StateFrom}
use Rattle.ranks.proofs.choosing.choose_state.Given as goal

abbrev pub invariant-loop-q : goal.invariant-loop-q
invariant-loop-q l = StateFrom (viewed l.classes [] l.n 0) (number_in l.numbers) l.n l.number l.left l.q

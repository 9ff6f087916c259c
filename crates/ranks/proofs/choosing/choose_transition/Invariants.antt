-- `ranks::choosing::choose_transition` meets its contract: the choice is that for what is left, from `i` on.
use Rattle.totals.specs.Numbers.{number_in}
use Rattle.ranks.proofs.Places.{TransitionFrom}
use Rattle.ranks.proofs.choosing.choose_transition.Given as goal

abbrev pub invariant-loop-i : goal.invariant-loop-i
invariant-loop-i l = TransitionFrom (number_in l.numbers) l.transitions l.count l.q l.number l.left l.i

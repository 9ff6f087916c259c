-- `numbering::placing::Placing::place_all` meets its contract: the numbers given so far stay.
use mathlib.Core.Path.{◌≡◌}
use Rattle.numbering.proofs.placing.Placing.place_all.Given as goal

abbrev pub invariant-loop-i : goal.invariant-loop-i
invariant-loop-i l = l.self.numbers ≡ l.initial.self.numbers

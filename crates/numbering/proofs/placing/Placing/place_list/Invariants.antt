-- `numbering::placing::Placing::place_list` meets its contract: the numbers given so far stay.
use mathlib.Core.Path.{◌≡◌}
use Rattle.numbering.proofs.placing.Placing.place_list.Given as goal

abbrev pub invariant-loop : goal.invariant-loop
invariant-loop l = l.self.numbers ≡ l.initial.self.numbers

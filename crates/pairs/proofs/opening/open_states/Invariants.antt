-- `pairs::opening::open_states` meets its contract: marks grow by rounds until one adds none.
use mathlib.Core.Path.{◌≡◌}
use Prim.Native.Nat.{◌-◌}
use lib.ListN.{length}
use Rattle.format.specs.Format.{byte_values}
use Rattle.marking.specs.Marks.{marks as marks_of}
use Rattle.marking.specs.Spread.{Led, UpTo}
use Rattle.pairs.specs.Counts.{nth_some_up}
use Rattle.pairs.proofs.opening.open_states.Given as goal

abbrev pub invariant-loop : goal.invariant-loop
invariant-loop l = Led (UpTo (nth_some_up l.transitions) l.count) l.initial.marks l.marks × (length l.marks ≡ byte_values)

abbrev pub decreases-loop : goal.decreases-loop
decreases-loop l = length l.marks - marks_of l.marks

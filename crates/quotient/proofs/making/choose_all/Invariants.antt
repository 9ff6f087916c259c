-- `quotient::making::choose_all` meets its contract: the transitions before i have their entries.
use mathlib.Core.Path.{◌≡◌}
use Prim.Native.Nat.{◌≤◌}
use lib.ListN.{length}
use Rattle.quotient.specs.Named.{choices_in, nth_choices}
use Rattle.quotient.proofs.Appending.{Making}
use Rattle.quotient.proofs.Walking.{left_from}
use Rattle.quotient.proofs.making.choose_all.Given as goal

abbrev pub invariant-loop-i : goal.invariant-loop-i
invariant-loop-i l =
    Making l.initial.entries (choices_in l.names l.transitions l.count)
    (left_from (nth_choices l.names l.transitions) l.count l.i) l.entries × (l.i ≤ l.count) ×
    (length l.ends ≡ length l.initial.ends)

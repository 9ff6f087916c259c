-- `quotient::making::add_lost` meets its contract: the subtrees before j have their entries.
use Prim.Native.Nat.{◌≤◌}
use Rattle.quotient.specs.Named.{added_at, added_in}
use Rattle.quotient.proofs.Appending.{Making}
use Rattle.quotient.proofs.Walking.{left_from}
use Rattle.quotient.proofs.making.add_lost.Given as goal

abbrev pub invariant-loop-j : goal.invariant-loop-j
invariant-loop-j l =
    Making l.initial.entries (added_in l.names)
    (left_from (added_at l.names) l.names.named.now.subtrees.now.count l.j) l.entries ×
    (l.j ≤ l.names.named.now.subtrees.now.count)

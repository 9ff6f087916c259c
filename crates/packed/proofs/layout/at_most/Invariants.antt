-- `packed::layout::at_most` meets its contract: the bytes so far are at most `top`, and the bytes left are still to
-- come.
use Prim.Native.Nat.{◌+◌, ◌-◌, ◌≤◌}
use lib.Dec.{leb}
use Rattle.lists.specs.Positions.{up_from}
use Rattle.lists.specs.Tests.{every}
use Rattle.lists.proofs.Loops.{CleanFrom}
use Rattle.packed.specs.Places.{at_most}
use Rattle.packed.proofs.layout.at_most.Given as goal

abbrev pub invariant-loop-j : goal.invariant-loop-j
invariant-loop-j l = (l.from ≤ l.j) × CleanFrom (every (at_most l.transitions l.bound) (up_from l.from (l.end - l.from))) (leb l.top l.bound) (at_most l.transitions l.bound)
    (l.from + (l.end - l.from)) l.j

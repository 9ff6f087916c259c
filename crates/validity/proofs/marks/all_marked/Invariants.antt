-- `validity::marks::all_marked` meets its contract: the answer is that of the states left.
use Rattle.std.proofs.Common.{◌+◌, ◌-◌}
use Rattle.lists.specs.Positions.{up_from}
use Rattle.lists.specs.Tests.{every}
use Rattle.marking.specs.Marks.{marked}
use Rattle.lists.proofs.Loops.{EveryFrom}
use Rattle.validity.proofs.marks.all_marked.Given as goal

abbrev pub invariant-loop-q : goal.invariant-loop-q
invariant-loop-q l = EveryFrom (every (marked l.marks) (up_from l.from (l.end - l.from))) (marked l.marks) (l.from + (l.end - l.from)) l.q

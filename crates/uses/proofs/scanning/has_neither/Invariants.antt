-- The loop at k has compared the places before it.
use Rattle.format.specs.Format.{max_arity}
use Rattle.lists.specs.Positions.{up_from}
use Rattle.lists.specs.Tests.{every}
use Rattle.lists.proofs.Loops.{CleanFrom}
use Rattle.uses.specs.Uses.{neither_at}
use Rattle.uses.proofs.scanning.has_neither.Given as goal

abbrev pub invariant-loop-k : goal.invariant-loop-k
invariant-loop-k l = CleanFrom (every (neither_at l.transitions l.at l.p l.q) (up_from 0 max_arity)) l.neither
    (neither_at l.transitions l.at l.p l.q) max_arity l.k

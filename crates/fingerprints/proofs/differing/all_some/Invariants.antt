-- `fingerprints::differing::all_some` meets its contract: what passed so far, and the states left.
use Rattle.std.proofs.Common.{◌+◌}
use Rattle.fingerprints.specs.Fingerprints.{some_at}
use Rattle.lists.proofs.Loops.{CleanFrom}
use Rattle.lists.specs.Positions.{up_from}
use Rattle.lists.specs.Tests.{every}
use Rattle.fingerprints.proofs.differing.all_some.Given as goal

abbrev pub invariant-loop-q : goal.invariant-loop-q
invariant-loop-q l = CleanFrom (every (some_at l.prints) (up_from 1 l.n)) l.all (some_at l.prints) (l.n + 1) l.q

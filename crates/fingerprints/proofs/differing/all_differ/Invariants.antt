-- `fingerprints::differing::all_differ` meets its contract: no two of the states before `q` share a fingerprint.
use Rattle.std.proofs.Common.{◌+◌}
use Rattle.lists.proofs.Loops.{EveryFrom}
use Rattle.lists.specs.Positions.{up_from}
use Rattle.lists.specs.Tests.{every}
use Rattle.fingerprints.specs.Fingerprints.{TakenBelow, differs_below}
use Rattle.fingerprints.proofs.differing.all_differ.Given as goal

abbrev pub invariant-loop-q : goal.invariant-loop-q
invariant-loop-q l = EveryFrom (every (differs_below l.prints) (up_from 1 l.n)) (differs_below l.prints) (l.n + 1) l.q ×
    TakenBelow l.prints l.q l.taken

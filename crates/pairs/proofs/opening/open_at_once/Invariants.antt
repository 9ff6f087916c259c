-- `pairs::opening::open_at_once` meets its contract: the marks before `q` are as the test says.
use Prim.Native.Nat.{◌≤◌}
use Rattle.pairs.specs.Counts.{starts_at}
use Rattle.pairs.proofs.Counting.{MarkedTo}
use Rattle.pairs.proofs.opening.open_at_once.Given as goal

abbrev pub invariant-loop-q : goal.invariant-loop-q
invariant-loop-q l = (l.q ≤ 256) × MarkedTo (starts_at l.counts l.sums) l.marks l.q

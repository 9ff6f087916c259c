-- `sorted::searching::partition_point` meets its contract: the number before `low` passes, and `high` fails.
use Rattle.std.proofs.Common.{◌-◌, false, true, ◌<◌, ◌≤◌}
use Rattle.sorted.proofs.searching.partition_point.Given as goal

abbrev pub invariant-loop-low : goal.invariant-loop-low
invariant-loop-low g l =
    (l.low ≤ l.high) × (l.high ≤ l.count)
    × (0 < l.low → goal.F-post g l.passes (l.low - 1) true)
    × (l.high < l.count → goal.F-post g l.passes l.high false)

abbrev pub decreases-loop-low : goal.decreases-loop-low
decreases-loop-low g l = l.high - l.low

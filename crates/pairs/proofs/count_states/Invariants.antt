-- `pairs::count_states` meets its contract: the entries before `j` are counted.
use Prim.Native.Nat.{◌≤◌}
use Rattle.pairs.specs.Counts.{Counted}
use Rattle.pairs.proofs.count_states.Given as goal

abbrev pub invariant-loop-j : goal.invariant-loop-j
invariant-loop-j l = (l.j ≤ l.m) × Counted l.states l.j l.counts

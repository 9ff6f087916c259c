-- `bench::output::take` meets its contract: the first `at` bytes of the part were taken, and their text was written.
use mathlib.Core.Path.{◌≡◌}
use Prim.Native.Nat.{◌-◌}
use lib.ListN.{length}
use Rattle.console.specs.Buffers.{console}
use Rattle.bench.proofs.Taking.{Taking}
use Rattle.bench.proofs.output.take.Given as goal

abbrev pub invariant-loop-at : goal.invariant-loop-at
invariant-loop-at l = Taking l.initial.q.progress (console l.initial.q.progress l.initial.line l.initial.table l.initial.scratch l.initial.out) l.input l.at l.q.progress l.line l.table l.scratch
    l.out × (length l.table ≡ length l.initial.table) × (length l.scratch ≡ length l.initial.scratch)

abbrev pub decreases-loop-at : goal.decreases-loop-at
decreases-loop-at l = length l.input - l.at

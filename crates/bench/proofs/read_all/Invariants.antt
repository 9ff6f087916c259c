-- `bench::read_all` meets its contract: the console took what the reads brought, and so many reads can follow.
use mathlib.Core.Path.{◌≡◌}
use Prim.Native.Nat.{◌-◌}
use lib.ListN.{length}
use Rattle.bench.proofs.Meeting.{Meeting}
use Rattle.bench.proofs.read_all.Given as goal

abbrev pub invariant-loop-done : goal.invariant-loop-done
invariant-loop-done l = Meeting (281474976710655 - l._done) l.w.progress l.line l.table l.scratch l.out ×
    (length l.chunk ≡ length l.initial.chunk) × (length l.table ≡ length l.initial.table) ×
    (length l.scratch ≡ length l.initial.scratch)

-- `console::feed` meets its contract: the first `i` bytes of the part were taken.
use mathlib.Core.Path.{◌≡◌}
use lib.ListN.{length}
use Rattle.console.specs.Buffers.{console}
use Rattle.console.proofs.Moves.{Feeding}
use Rattle.console.proofs.feed.Given as goal

abbrev pub invariant-loop-i : goal.invariant-loop-i
invariant-loop-i l = Feeding l.initial.q (console l.initial.q l.initial.line l.initial.table l.initial.scratch l.initial.out) l.input l.i l.q l.line l.table l.scratch l.out ×
    (length l.table ≡ length l.initial.table) × (length l.scratch ≡ length l.initial.scratch)

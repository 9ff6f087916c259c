-- The loop at i has noted the transitions before it.
use Prim.Native.Nat.{◌≤◌}
use Rattle.uses.specs.Spans.{Noted}
use Rattle.uses.proofs.spans.note_uses.Given as goal

abbrev pub invariant-loop-i : goal.invariant-loop-i
invariant-loop-i l = (l.i ≤ l.count) × Noted l.transitions l.i l.lows l.lasts

-- The loop at k has noted the arguments before it.
use mathlib.Core.Path.{◌≡◌}
use Prim.Native.Nat.{◌*◌}
use Rattle.format.specs.Format.{transition_bytes}
use Rattle.table.specs.Layout.{arity_of}
use Rattle.uses.specs.Spans.{NotedTo}
use Rattle.uses.proofs.spans.note_args.Given as goal

abbrev pub invariant-loop-k : goal.invariant-loop-k
invariant-loop-k l = (l.arity ≡ arity_of l.transitions (transition_bytes * l.i)) × NotedTo l.transitions l.i l.k l.lows l.lasts

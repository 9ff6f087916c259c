-- `quotient::plain::mark_odd` meets its contract: only states with no name but their own lose their marks.
use mathlib.Core.Path.{◌≡◌}
use Prim.Native.Nat.{◌≤◌}
use lib.ListN.{length}
use Rattle.format.specs.Format.{byte_values}
use Rattle.quotient.specs.Named.{OddIn}
use Rattle.quotient.proofs.plain.mark_odd.Given as goal

abbrev pub invariant-loop-q : goal.invariant-loop-q
invariant-loop-q l = (1 ≤ l.q) × (length l.odd ≡ byte_values) × OddIn l.names l.odd

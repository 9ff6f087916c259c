-- `totals::search::link` meets its contract: every link stays within the table.
use mathlib.Core.Path.{◌≡◌}
use Prim.Native.Nat.{◌+◌}
use lib.ListN.{length}
use Rattle.format.specs.Format.{byte_values, max_transitions}
use Rattle.totals.proofs.search.link.Given as goal

abbrev pub invariant-loop-i : goal.invariant-loop-i
invariant-loop-i l = length l.links ≡ byte_values + max_transitions

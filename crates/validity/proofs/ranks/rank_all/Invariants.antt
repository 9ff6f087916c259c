-- `validity::ranks::rank_all` meets its contract: every step stays within the tables.
use Rattle.std.proofs.Common.{◌≡◌, ◌≤◌, length}
use Rattle.format.specs.Format.{byte_values}
use Rattle.validity.proofs.ranks.rank_all.Given as goal

abbrev pub invariant-loop : goal.invariant-loop
invariant-loop l = (l.depth ≤ byte_values) × (l.start ≤ l.n) × (length l.path ≡ byte_values) × (length l.first ≡ byte_values) ×
    (length l.ranks ≡ byte_values)

-- `validity::ranks::link` meets its contract: the tables keep their lengths.
use Rattle.std.proofs.Common.{◌≡◌, length}
use Rattle.format.specs.Format.{byte_values, max_transitions}
use Rattle.validity.proofs.ranks.link.Given as goal

abbrev pub invariant-loop-i : goal.invariant-loop-i
invariant-loop-i l = (length l.first ≡ byte_values) × (length l.others ≡ max_transitions)

-- `quotient::choosing::choose` meets its contract: the names of place k before x have their entries.
-- The measure is the number of places left.
use Rattle.std.proofs.Common.{◌-◌, ◌<◌}
use Rattle.format.specs.Format.{byte_values}
use Rattle.quotient.specs.Named.{choices_from}
use Rattle.quotient.proofs.Appending.{Making}
use Rattle.quotient.proofs.Walking.{chain_left, chosen_left}
use Rattle.quotient.proofs.choosing.+choose.Given as goal

abbrev pub decreases-choose : goal.decreases-choose
decreases-choose l = 8 - l.k

abbrev pub invariant-loop-x : goal.invariant-loop-x
invariant-loop-x l =
    Making l.initial.entries (choices_from l.names l.transitions l.at l.k l.choice.own l.choice.prefix)
    (chosen_left l.names l.transitions l.at l.k l.choice.own l.choice.prefix l.x) l.entries × (l.x < byte_values)

abbrev pub decreases-loop-x : goal.decreases-loop-x
decreases-loop-x l = chain_left l.x

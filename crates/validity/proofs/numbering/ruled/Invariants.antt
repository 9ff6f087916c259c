-- `validity::numbering::ruled` meets its contract: the pass has read the transitions before i. Its end says whether
-- all states are numbered, and whether all transitions climb.
use Rattle.std.proofs.Common.{◌≡◌, length}
use Rattle.automata.specs.Numbered.{Passed}
use Rattle.format.specs.Format.{byte_values}
use Rattle.marking.specs.Marks.{marked}
use Rattle.table.specs.Layout.{nth_transition, transitions_in}
use Rattle.validity.specs.Ranks.{climbing, climbs}
use Rattle.validity.specs.Rules.{Spans}
use Rattle.lists.proofs.Loops.{CleanFrom}
use Rattle.validity.proofs.numbering.ruled.Given as goal

abbrev pub invariant-loop-i : goal.invariant-loop-i
invariant-loop-i l = (length l.seen ≡ byte_values) × Passed (transitions_in l.transitions l.i) (marked l.seen) × Spans l.seen ×
    CleanFrom (climbing (transitions_in l.transitions l.count)) l.climbing (λ j. climbs (nth_transition l.transitions j)) l.count l.i

-- `validity::numbering::all_seen` meets its contract: all states from q on have been seen.
use Rattle.std.proofs.Common.{◌≡◌, ℕ, ◌<◌, ◌≤◌, true}
use Rattle.marking.specs.Marks.{marked}
use Rattle.validity.proofs.numbering.all_seen.Given as goal

abbrev pub invariant-loop-q : goal.invariant-loop-q
invariant-loop-q l = (l.q ≤ l.end) × ((p : ℕ) → l.q ≤ p → p < l.end → marked l.seen p ≡ true)

abbrev pub decreases-loop-q : goal.decreases-loop-q
decreases-loop-q l = l.q

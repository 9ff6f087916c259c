-- `quotient::counting::tally` meets its contract: the count so far and the count of the rest add up to the whole.
use Rattle.std.proofs.Common.{Bool, ◌≡◌, ◌-◌, ◌<◌, ◌≤◌, ℕ, length}
use Rattle.lists.specs.Positions.{up_from}
use Rattle.lists.specs.Tests.{filter}
use Rattle.quotient.proofs.Tallies.{TallyFrom}
use Rattle.quotient.proofs.counting.tally.Given as goal

abbrev pub invariant-loop-x : goal.invariant-loop-x
invariant-loop-x g l =
    (l.sum ≤ l.x) ×
    ((p : ℕ → Bool) → ((x : ℕ) → x < l.end → (b : Bool) → goal.F-post g l.passes x b → b ≡ p x) →
    TallyFrom p (length (filter p (up_from l.start (l.end - l.start)))) l.end l.sum l.x)

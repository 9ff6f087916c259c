-- `minimize::number::first_ready` meets its contract: the better of the best so far and the best of the rest is the
-- best of all.
use mathlib.Core.List.{List}
use Prim.Native.Nat.{◌<◌, ℕ}
use Rattle.std.specs.Option.{ForSome}
use Rattle.minimize.specs.Numbering.{NumbersOf}
use Rattle.minimize.proofs.Ready.{BestFrom}
use Rattle.minimize.proofs.number.first_ready.Given as goal

abbrev pub invariant-loop-i : goal.invariant-loop-i
invariant-loop-i l =
    (ForSome l.best (λ b. b < l.count))
    × ((o : List ℕ) → NumbersOf l.numbers o → BestFrom o l.transitions l.count l.best l.i)

-- No refusal has the number 0.
use mathlib.Core.Path.{◌≡◌}
use native.Mathlib.Omega.{arith}
use Rattle.format.specs.declared.refusal.Refusal.{Refusal}
use Rattle.format.specs.declared.refusal.Refusal.TheVariants.{EquivalentStates, InaccessibleState, LargeNumber}
use Rattle.format.specs.declared.refusal.Refusal.TheVariants.{LargeProduct, LargeTree, Layout, LentLength}
use Rattle.format.specs.declared.refusal.Refusal.TheVariants.{ListingLength, Loop, NotOneTree, Numbering, Order}
use Rattle.format.specs.declared.refusal.Refusal.TheVariants.{TableFull, TableLength, TooManyChildren, TotalOver}
use Rattle.format.specs.declared.refusal.Refusal.TheVariants.{TreeInSet, TreeNotInSet, UnusedState, ZeroLabel}
use Rattle.format.specs.Refusals.{refusal_number}

pub refusal-some : (r : Refusal) → refusal_number r ≡ 0 → ⊥
refusal-some ListingLength e = absurd (omega arith)
refusal-some ZeroLabel e = absurd (omega arith)
refusal-some TooManyChildren e = absurd (omega arith)
refusal-some NotOneTree e = absurd (omega arith)
refusal-some TableLength e = absurd (omega arith)
refusal-some LentLength e = absurd (omega arith)
refusal-some Layout e = absurd (omega arith)
refusal-some Order e = absurd (omega arith)
refusal-some InaccessibleState e = absurd (omega arith)
refusal-some UnusedState e = absurd (omega arith)
refusal-some Loop e = absurd (omega arith)
refusal-some EquivalentStates e = absurd (omega arith)
refusal-some Numbering e = absurd (omega arith)
refusal-some TreeInSet e = absurd (omega arith)
refusal-some TreeNotInSet e = absurd (omega arith)
refusal-some LargeProduct e = absurd (omega arith)
refusal-some TableFull e = absurd (omega arith)
refusal-some TotalOver e = absurd (omega arith)
refusal-some LargeNumber e = absurd (omega arith)
refusal-some LargeTree e = absurd (omega arith)

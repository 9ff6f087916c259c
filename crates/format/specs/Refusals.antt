-- The numbers of document 01 for what a call refuses.
use Rattle.std.specs.Prelude.{Err, Ok, Result, ℕ}
use Rattle.format.specs.declared.refusal.Refusal.{Refusal}
use Rattle.format.specs.declared.refusal.Refusal.TheVariants.{EquivalentStates, InaccessibleState, LargeNumber}
use Rattle.format.specs.declared.refusal.Refusal.TheVariants.{LargeProduct, LargeTree, Layout, LentLength}
use Rattle.format.specs.declared.refusal.Refusal.TheVariants.{ListingLength, Loop, NotOneTree, Numbering, Order}
use Rattle.format.specs.declared.refusal.Refusal.TheVariants.{TableFull, TableLength, TooManyChildren, TotalOver}
use Rattle.format.specs.declared.refusal.Refusal.TheVariants.{TreeInSet, TreeNotInSet, UnusedState, ZeroLabel}

-- the number of a refusal
abbrev pub refusal_number : Refusal → ℕ
refusal_number ListingLength = 1
refusal_number ZeroLabel = 2
refusal_number TooManyChildren = 3
refusal_number NotOneTree = 4
refusal_number TableLength = 5
refusal_number LentLength = 6
refusal_number Layout = 7
refusal_number Order = 8
refusal_number InaccessibleState = 9
refusal_number UnusedState = 10
refusal_number Loop = 11
refusal_number EquivalentStates = 12
refusal_number Numbering = 13
refusal_number TreeInSet = 14
refusal_number TreeNotInSet = 15
refusal_number LargeProduct = 16
refusal_number TableFull = 17
refusal_number TotalOver = 18
refusal_number LargeNumber = 19
refusal_number LargeTree = 20

-- the number of the refusal that a check or a call ends with; 0 if it ends with none
abbrev pub broken : {A : Type 0} → Result A Refusal → ℕ
broken (Ok x) = 0
broken (Err r) = refusal_number r

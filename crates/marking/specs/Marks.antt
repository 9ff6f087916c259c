-- Tables of marks that grow in place until nothing new is marked. A function that adds marks promises `Swept`;
-- what is sound and what is closed are facts about the table of marks: code may mark in any order.
use Rattle.std.specs.Prelude.{Bool, false, true, List, [], ◌∷◌, ◌≡◌, ◌+◌, ◌<◌, suc, zero, ℕ, get_or, length}
use Rattle.lists.specs.Tests.{bit}

-- an entry that is not 0 is a mark
abbrev pub nonzero : ℕ → Bool
nonzero zero = false
nonzero (suc n) = true

-- entry i is a mark
abbrev pub marked : List ℕ → ℕ → Bool
marked m i = nonzero (get_or m i 0)

-- the number of marks
abbrev pub marks : List ℕ → ℕ
marks [] = 0
marks (x ∷ xs) = bit (nonzero x) + marks xs

-- every mark has the property
abbrev pub Within : (ℕ → Type 0) → List ℕ → Type 0
Within P m = (i : ℕ) → marked m i ≡ true → P i

-- the property holds below n
abbrev pub Below : (ℕ → List ℕ → Type 0) → ℕ → List ℕ → Type 0
Below C n m = (i : ℕ) → i < n → C i m

-- marks were added, r says whether any: the marks stay sound, and if none was added they are closed
pub record Swept (Sound Closed : List ℕ → Type 0) (m m' : List ℕ) (r : Bool) : Type 0 where
  pub size : length m' ≡ length m
  pub sound : Sound m → Sound m'
  pub kept : (i : ℕ) → marked m i ≡ true → marked m' i ≡ true
  pub grown : r ≡ true → marks m < marks m'
  pub still : r ≡ false → m' ≡ m
  pub closed : r ≡ false → Closed m

-- Marks that spread by a rule. A rule is a fact about a set of entries, "what passes is closed under this step", so
-- that one text says what a sweep keeps and what it has reached when it marks nothing new.
use Rattle.std.specs.Prelude.{Bool, true, List, ◌≡◌, ◌-◌, ◌<◌, ℕ, length}
use Rattle.marking.specs.Marks.{Swept, Within, marked}

-- a set is closed under a step
abbrev pub Rule : Type 1
Rule = (ℕ → Bool) → Type 0

-- the entry passes
abbrev pub Has : ℕ → Rule
Has q p = p q ≡ true

-- closed under the steps 0 to n - 1
abbrev pub UpTo : (ℕ → Rule) → ℕ → Rule
UpTo C n p = (i : ℕ) → i < n → C i p

-- step j from the last of n
abbrev pub from_last : (ℕ → Rule) → ℕ → ℕ → Rule
from_last C n j = C (n - 1 - j)

-- the set has every mark
abbrev pub Covers : (ℕ → Bool) → List ℕ → Type 0
Covers p m = Within (λ q. p q ≡ true) m

-- marks were added, r says whether any: each set that is closed and had the old marks has the new ones, and if
-- none was added the marks are closed
pub record Spread (C : Rule) (m m' : List ℕ) (r : Bool) : Type 0 where
  pub swept : Swept (Within (λ q. Unit {0})) (λ k. C (marked k)) m m' r
  pub sound : (p : ℕ → Bool) → C p → Covers p m → Covers p m'

-- marks were added, none that a closed set with the old marks lacks
pub record Led (C : Rule) (m m' : List ℕ) : Type 0 where
  pub size : length m' ≡ length m
  pub kept : (i : ℕ) → marked m i ≡ true → marked m' i ≡ true
  pub sound : (p : ℕ → Bool) → C p → Covers p m → Covers p m'

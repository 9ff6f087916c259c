-- Steps on one value, each of which says whether it changed it.
use Rattle.std.specs.Prelude.{Bool, false, ◌||◌, ◌≡◌, ℕ, suc, zero}
use denote.Ref.{MutBor}

-- step i may make m' of m and return r, said by what a call of it may give
pub record Made {M : Type 0} (post : ℕ → MutBor M → Bool → MutBor M → Type 0) (i : ℕ) (m : M) (r : Bool) (m' : M) : Type 0 where
  pub shown : MutBor M
  pub left : MutBor M
  pub met : post i shown r left
  pub shows : shown.now ≡ m
  pub leaves : left.now ≡ m'

-- the steps 0 to n - 1, one after another, may make m' of m; r says whether one of them returned true
abbrev pub Steps : {M : Type 0} → (ℕ → M → Bool → M → Type 0) → ℕ → M → M → Bool → Type 0
Steps R zero m m' r = (m' ≡ m) × (r ≡ false)
Steps {M} R (suc n) m m' r = (k : M) × (x : Bool) × (y : Bool) × Steps R n m k x × R n k y m' × (r ≡ (x || y))

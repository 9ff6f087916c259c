-- Names replaced by their numbers in packed arguments.
use Rattle.std.specs.Prelude.{List, ◌≡◌, ◌<◌, ◌≤◌, ℕ}
use Rattle.minimize.specs.Renaming.{name_in}
use Rattle.packed.specs.Heads.{place_of}
use Rattle.packed.specs.Packed.{digits, pad_to}

-- the number of argument k
abbrev pub number_at : List ℕ → ℕ → ℕ → ℕ
number_at numbers a k = name_in numbers (place_of a k)

-- b has the numbers of the first n arguments of a as digits, and each of these arguments has one
pub record ArgsByNumber (numbers : List ℕ) (a n b : ℕ) : Type 0 where
  pub has : (k : ℕ) → k < n → 1 ≤ number_at numbers a k
  pub packed : b ≡ pad_to n (digits (number_at numbers a) 0 n 0)

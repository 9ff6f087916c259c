-- Numbers in decimal, as the bytes of a text.
use Rattle.std.specs.Prelude.{cond, List, [], ◌++◌, ◌∷◌, ◌%◌, ◌+◌, ◌/◌, suc, zero, ℕ, ltb}

-- the byte of a decimal digit
abbrev pub digit : ℕ → ℕ
digit d = 48 + d

-- a number in decimal without leading zeros, if it has at most k digits
unfoldable pub digits : ℕ → ℕ → List ℕ
digits zero n = []
digits (suc k) n =
    let before = digits k (n / 10) in cond (ltb n 10) (digit n ∷ []) (before ++ (digit (n % 10) ∷ []))

-- a number in decimal without leading zeros; n has at most n + 1 digits
unfoldable pub decimal : ℕ → List ℕ
decimal n = digits (suc n) n

-- Numbers of trees up to 2^64, as code has them: a number that fits 64 bits, or none if it is over.
use Rattle.std.specs.Prelude.{cond, None, Option, Some, ℕ, ltb}
use Rattle.format.specs.Format.{number_limit}

-- numbers are exact below this one
abbrev pub limit : ℕ
limit = number_limit

-- what is said of a number: the number itself, or none if it is above 18,446,744,073,709,551,615
unfoldable pub total_of : ℕ → Option ℕ
total_of n = cond (ltb n limit) (Some n) None

-- the number that code goes on with: none counts as the limit
abbrev pub worth : Option ℕ → ℕ
worth (Some n) = n
worth None = limit

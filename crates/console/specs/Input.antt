-- The lines of an input, as document 01 words them: byte 10 or the end of input ends a line; there is no further line
-- after a final byte 10.
use Rattle.std.specs.Prelude.{Bool, cond, false, true, List, [], ◌++◌, ◌∷◌, ◌≡◌, ℕ, eqb}

abbrev pub newline : ℕ
newline = 10

abbrev pub is_empty : List ℕ → Bool
is_empty [] = true
is_empty (b ∷ s) = false

-- the lines of an input of which a line has these bytes so far
abbrev pub lines_from : List ℕ → List ℕ → List (List ℕ)
lines_from [] line = cond (is_empty line) [] (line ∷ [])
lines_from (b ∷ s) line = cond (eqb b newline) (line ∷ lines_from s []) (lines_from s (line ++ (b ∷ [])))

unfoldable pub lines_of : List ℕ → List (List ℕ)
lines_of s = lines_from s []

-- ---- what the lines of an input are

-- no byte ends a line
abbrev pub Unbroken : List ℕ → Type 0
Unbroken [] = Unit {0}
Unbroken (b ∷ s) = (eqb b newline ≡ false) × Unbroken s

abbrev pub AllUnbroken : List (List ℕ) → Type 0
AllUnbroken [] = Unit {0}
AllUnbroken (s ∷ ss) = Unbroken s × AllUnbroken ss

-- lines in a row, each with the byte that ends it
abbrev pub ended : List (List ℕ) → List ℕ
ended [] = []
ended (s ∷ ss) = s ++ (newline ∷ ended ss)

-- an input is lines that end, and bytes after them: a line that the end of the input ends, if there are any
pub record Lines (input : List ℕ) : Type 0 where
  pub whole : List (List ℕ)
  pub last : List ℕ
  pub unbroken : AllUnbroken whole × Unbroken last
  pub bytes : input ≡ ended whole ++ last

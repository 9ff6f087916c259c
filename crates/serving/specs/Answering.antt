-- What the functions leave: an outcome with the table and the scratch after it, and a buffer that holds a text.
use Rattle.std.specs.Prelude.{List, Result, ◌≡◌, ◌≤◌, ℕ, length, take}
use Rattle.report.specs.Printing.{line_bytes}
use Rattle.calls.specs.declared.Answer.{Answer}
use Rattle.text.specs.declared.Malformed.{Malformed}
use Rattle.serving.specs.Serving.{Handled, Served, served}

-- an outcome with the table and the scratch
abbrev pub handling : Result Answer Malformed → List ℕ → List ℕ → Handled
handling o b w = record { outcome = o; table = b; scratch = w }

-- the first bytes of a buffer with the table and the scratch
abbrev pub serving : List ℕ → ℕ → List ℕ → List ℕ → Served
serving t r b w = record { text = take r t; table = b; scratch = w }

-- The first r bytes of the buffer t are the text for a line, and b' and w' are what b and w became.
pub record Serves (n : ℕ) (s b w t : List ℕ) (r : ℕ) (b' w' : List ℕ) : Type 0 where
  pub size : length t ≡ line_bytes
  pub within : r ≤ line_bytes
  pub equal : serving t r b' w' ≡ served n s b w

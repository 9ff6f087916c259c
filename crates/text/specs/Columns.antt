-- A text cursor: a place in a line, from 0, and the column of the byte there, from 1.
use Rattle.std.specs.Prelude.{◌≡◌, ℕ, suc, ◌+◌, ◌%◌, ◌^◌, ◌≤◌, List, length}
use Rattle.format.specs.Format.{max_line}
use Rattle.text.specs.declared.cursor.Cursor.{Cursor}

-- the cursor at the start of a line
abbrev pub line_start : Cursor
line_start = record { place = 0; column = 1 }

-- the cursor n bytes further on; its two numbers wrap as a machine's do
abbrev pub advanced : Cursor → ℕ → Cursor
advanced c n = record { place = (c.place + n) % 2 ^ 64; column = (c.column + n) % 2 ^ 64 }

-- d is n bytes ahead of c, in both numbers
pub record Ahead (c : Cursor) (n : ℕ) (d : Cursor) : Type 0 where
  pub place : d.place ≡ c.place + n
  pub column : d.column ≡ c.column + n

-- a cursor within a line of at most 512 bytes, or at its end; its column is that of its place
pub record OnLine (s : List ℕ) (c : Cursor) : Type 0 where
  pub short : length s ≤ max_line
  pub within : c.place ≤ length s
  pub column : c.column ≡ suc c.place

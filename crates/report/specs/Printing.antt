-- What the functions that print leave: text put into a buffer.
use Rattle.std.specs.Prelude.{List, ◌++◌, ◌≡◌, ◌+◌, ◌≤◌, ℕ, length, take}

-- the bytes of the buffer
abbrev pub line_bytes : ℕ
line_bytes = 80

-- the most bytes of a number below 2^64, of a field, and of an answer
abbrev pub number_bytes : ℕ
number_bytes = 20

abbrev pub field_bytes : ℕ
field_bytes = 21

abbrev pub answer_bytes : ℕ
answer_bytes = 50

-- a buffer has room for n bytes from a place on
pub record TextRoom (s : List ℕ) (at n : ℕ) : Type 0 where
  pub size : length s ≡ line_bytes
  pub fits : at + n ≤ line_bytes

-- a buffer s became t: its first bytes, up to a place, were kept, and a text put there, which ends before r
pub record Put (s t : List ℕ) (at : ℕ) (text : List ℕ) (r : ℕ) : Type 0 where
  pub size : length t ≡ length s
  pub end : r ≡ at + length text
  pub bytes : take r t ≡ take at s ++ text

-- a buffer t holds the text x in its first r bytes
pub record Printed (t x : List ℕ) (r : ℕ) : Type 0 where
  pub size : length t ≡ line_bytes
  pub within : r ≤ line_bytes
  pub text : take r t ≡ x

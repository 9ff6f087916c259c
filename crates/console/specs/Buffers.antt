-- A console in the code: numbers by value, and buffers that are lent.
use Rattle.std.specs.Prelude.{List, ◌≡◌, ◌*◌, ◌+◌, ◌<◌, ◌^◌, ◌≤◌, ℕ, length, replicate, take}
use Rattle.format.specs.Format.{scratch_bytes, table_bytes}
use Rattle.report.specs.Printing.{line_bytes}
use Rattle.console.specs.Console.{Console, closed, fed, held_bytes, holding}
use Rattle.console.specs.declared.Fed as code
use Rattle.console.specs.declared.Progress.{Progress}

-- the bytes of the buffer for what is printed
abbrev pub out_bytes : ℕ
out_bytes = 65536

-- zeros, for the table and the scratch at the start
unfoldable pub empty_table : List ℕ
empty_table = replicate table_bytes 0

unfoldable pub empty_scratch : List ℕ
empty_scratch = replicate scratch_bytes 0

-- the console that numbers and buffers hold: line, table, scratch and what is printed
abbrev pub console : Progress → List ℕ → List ℕ → List ℕ → List ℕ → Console
console p l b w o = record {
  held = take p.held l;
  lines = p.lines;
  table = b;
  scratch = w;
  text = take p.printed o;
}

-- the buffers have their sizes, and the line's bytes are within its buffer
pub record Buffered (p : Progress) (l o : List ℕ) : Type 0 where
  pub line : length l ≡ held_bytes
  pub out : length o ≡ out_bytes
  pub held : p.held ≤ held_bytes

-- n lines more can be counted, and k texts more have room
pub record ProgressRoom (p : Progress) (n k : ℕ) : Type 0 where
  pub lines : p.lines + n < 2 ^ 64
  pub printed : p.printed + k * line_bytes ≤ out_bytes

-- a line became m: it holds one byte more, if it has room
pub record LineKept (l : List ℕ) (n b : ℕ) (m : List ℕ) (r : ℕ) : Type 0 where
  pub size : length m ≡ length l
  pub within : r ≤ held_bytes
  pub bytes : take r m ≡ holding (take n l) b

-- from numbers p the console became x with at most one line and one text more, in numbers r and these buffers
pub record Moved (p : Progress) (x : Console) (r : Progress) (l b w o : List ℕ) : Type 0 where
  pub ready : Buffered r l o
  pub lines : r.lines ≤ p.lines + 1
  pub printed : r.printed ≤ p.printed + line_bytes
  pub equal : console r l b w o ≡ x

-- A part s of the input was fed to the console x as far as the room for texts reached: all of it, or at least one byte.
pub record FedTo (p : Progress) (x : Console) (s : List ℕ) (r : code.Fed) (l b w o : List ℕ) : Type 0 where
  pub ready : Buffered r.progress l o
  pub within : r.taken ≤ length s
  pub some : 0 < length s → 0 < r.taken
  pub lines : r.progress.lines ≤ p.lines + r.taken
  pub printed : r.progress.printed ≤ out_bytes
  pub equal : console r.progress l b w o ≡ fed x (take r.taken s)

-- a buffer's first r bytes are all that is printed
pub record ClosedTo (x : Console) (r : ℕ) (o : List ℕ) : Type 0 where
  pub size : length o ≡ out_bytes
  pub within : r ≤ out_bytes
  pub text : take r o ≡ closed x

-- The bench program as a console: what it prints for a whole input, and the same a byte at a time, as it
-- meets its input.
use Rattle.std.specs.Prelude.{cond, List, [], ◌++◌, ◌∷◌, ◌+◌, suc, ℕ, eqb, ltb, length, replicate}
use Rattle.format.specs.Format.{max_line, scratch_bytes, table_bytes}
use Rattle.serving.specs.Serving.{Served, closing, served}
use Rattle.console.specs.Input.{is_empty, lines_of, newline}

-- ---- line by line

-- what is printed for lines after n others, on a table and a scratch: each line's text, then the last line
abbrev pub printed_from : List (List ℕ) → ℕ → List ℕ → List ℕ → List ℕ
printed_from [] n b w = closing n b
printed_from (s ∷ ss) n b w =
    (served (suc n) s b w).text ++ printed_from ss (suc n) (served (suc n) s b w).table (served (suc n) s b w).scratch

-- what is printed for an input, starting from the empty table
unfoldable pub printed : List ℕ → List ℕ
printed input = printed_from (lines_of input) 0 (replicate table_bytes 0) (replicate scratch_bytes 0)

-- ---- byte by byte

-- The bytes that are held of a line that has not ended, the number of lines before it, the table and the scratch, and
-- the text that is printed and not written yet.
pub record Console : Type 0 where
  pub held : List ℕ
  pub lines : ℕ
  pub table : List ℕ
  pub scratch : List ℕ
  pub text : List ℕ

-- the most bytes that are held of a line: one more than a line may have
abbrev pub held_bytes : ℕ
held_bytes = max_line + 1

-- a line with one byte more: bytes beyond those that are held are dropped
unfoldable pub holding : List ℕ → ℕ → List ℕ
holding line b = cond (ltb (length line) held_bytes) (line ++ (b ∷ [])) line

-- a console whose line was served
abbrev pub after : Console → Served → Console
after x r = record {
  held = [];
  lines = suc x.lines;
  table = r.table;
  scratch = r.scratch;
  text = x.text ++ r.text;
}

-- the line ends
unfoldable pub line_ended : Console → Console
line_ended x = after x (served (suc x.lines) x.held x.table x.scratch)

-- a byte of the line
abbrev pub kept : Console → ℕ → Console
kept x b = record {
  held = holding x.held b;
  lines = x.lines;
  table = x.table;
  scratch = x.scratch;
  text = x.text;
}

-- one byte of the input
unfoldable pub stepped : Console → ℕ → Console
stepped x b = cond (eqb b newline) (line_ended x) (kept x b)

-- the bytes of a part of the input
abbrev pub fed : Console → List ℕ → Console
fed x [] = x
fed x (b ∷ s) = fed (stepped x b) s

-- the end of the input ends a line that has bytes
unfoldable pub input_ended : Console → Console
input_ended x = cond (is_empty x.held) x (line_ended x)

-- all that is printed: the lines' texts, then the last line
unfoldable pub closed : Console → List ℕ
closed x = (input_ended x).text ++ closing (input_ended x).lines (input_ended x).table

-- before the first byte
unfoldable pub start : Console
start = record {
  held = [];
  lines = 0;
  table = replicate table_bytes 0;
  scratch = replicate scratch_bytes 0;
  text = [];
}

-- ---- in parts, each part's text written before the next

-- a console whose text was written
abbrev pub written : Console → Console
written x = record { held = x.held; lines = x.lines; table = x.table; scratch = x.scratch; text = [] }

-- all that is written for parts of an input
abbrev pub written_for : Console → List (List ℕ) → List ℕ
written_for x [] = closed x
written_for x (s ∷ ss) = (fed x s).text ++ written_for (written (fed x s)) ss

-- parts of an input in a row
abbrev pub joined : List (List ℕ) → List ℕ
joined [] = []
joined (s ∷ ss) = s ++ joined ss

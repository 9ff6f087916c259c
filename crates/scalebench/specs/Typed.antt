-- The numbers that the C interface returns for a line of text: 256 kind + 65,536 number. Kind 1 adds, 2 drops and 3
-- asks, with the length of the listing; 4 is malformed, with the column; 5 is too long; 6 is (total).
use Rattle.std.specs.Prelude.{Err, Ok, Result, ◌*◌, ◌+◌, ◌≤◌, ℕ}
use Rattle.text.specs.declared.Command.{Command}
use Rattle.text.specs.declared.Command.TheVariants.{Add, Ask, Drop, Total}
use Rattle.text.specs.declared.Malformed.{Malformed}
use Rattle.text.specs.declared.Malformed.TheVariants.{Form, Long}

-- the number of each case of the reader's result
abbrev pub line_number : Result Command Malformed → ℕ
line_number (Ok (Add n)) = 256 * 1 + 65536 * n
line_number (Ok (Drop n)) = 256 * 2 + 65536 * n
line_number (Ok (Ask n)) = 256 * 3 + 65536 * n
line_number (Err (Form n)) = 256 * 4 + 65536 * n
line_number (Err Long) = 256 * 5
line_number (Ok Total) = 256 * 6

-- no line has so long a listing or so many columns that its number is above 513
abbrev pub Small : Result Command Malformed → Type 0
Small (Ok (Add n)) = n ≤ 513
Small (Ok (Drop n)) = n ≤ 513
Small (Ok (Ask n)) = n ≤ 513
Small (Err (Form n)) = n ≤ 513
Small (Err Long) = Unit {0}
Small (Ok Total) = Unit {0}

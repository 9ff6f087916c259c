-- What a caller of `read_line` gets: the value returned, and the table of bytes that it lent.
use Rattle.std.specs.Prelude.{Err, Ok, Result, ℕ, ◌-◌, List, ◌++◌, length, replicate}
use Rattle.format.specs.Format.{listing_bytes}
use Rattle.text.specs.Grammar.{to_add, to_ask, to_drop}
use Rattle.text.specs.Grammar as grammar
use Rattle.text.specs.Reader.{Line, form, formed, long, totalled}
use Rattle.text.specs.declared.Command.{Command}
use Rattle.text.specs.declared.Command.TheVariants.{Add, Ask, Drop, Total}
use Rattle.text.specs.declared.Malformed.{Malformed}
use Rattle.text.specs.declared.Malformed.TheVariants.{Form, Long}

-- a table of zeros, and one that holds a listing and zeros after it
unfoldable pub no_listing : List ℕ
no_listing = replicate listing_bytes 0

unfoldable pub padded : List ℕ → List ℕ
padded l = l ++ replicate (listing_bytes - length l) 0

-- the value returned for a line, and what the lent table then holds: zeros if there is no listing
abbrev pub parsed_as : grammar.Command → ℕ → Command
parsed_as to_add n = Add n
parsed_as to_drop n = Drop n
parsed_as to_ask n = Ask n

unfoldable pub parsed : Line → Result Command Malformed
parsed (formed c l) = Ok (parsed_as c (length l))
parsed totalled = Ok Total
parsed (form n) = Err (Form n)
parsed long = Err Long

unfoldable pub listed : Line → List ℕ
listed (formed c l) = padded l
listed totalled = no_listing
listed (form n) = no_listing
listed long = no_listing

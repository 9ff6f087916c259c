-- Tests of single bytes that the check of a table's layout makes.
use Rattle.std.specs.Prelude.{Bool, List, ℕ, eqb, leb, get_or}
use Rattle.automata.specs.Valid.{in_range}
use Rattle.table.specs.Layout.{arg_of}

-- byte j is at most a bound
abbrev pub at_most : List ℕ → ℕ → ℕ → Bool
at_most s k j = leb (get_or s j 0) k

-- argument k of the transition that starts at a byte is one of the states 1 to n
abbrev pub arg_in_range : List ℕ → ℕ → ℕ → ℕ → Bool
arg_in_range s n at k = in_range n (arg_of s at k)

-- place k for arguments of the transition that starts at a byte is 0
abbrev pub arg_empty : List ℕ → ℕ → ℕ → Bool
arg_empty s at k = eqb (arg_of s at k) 0

-- Lists of bytes.
use mathlib.Core.List.{List}
use Prim.Native.Nat.{◌+◌, ℕ}
use lib.ListN.{drop}
use lib.Seq.{get_or-drop}
use Rattle.format.specs.Format.{AllBytes}

pub drop-bytes : (n : ℕ) (s : List ℕ) → AllBytes s → AllBytes (drop n s)
drop-bytes n s h i = rw (get_or-drop n s i 0) (h (n + i))

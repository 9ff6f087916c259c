-- The part of a slice from an index on, as a call gets it.
use mathlib.Core.List.{List}
use mathlib.Core.Path.{◌∙◌, ◌≡◌, ap}
use Prim.Native.Nat.{◌-◌, ℕ}
use native.Mathlib.Omega.{arith}
use lib.ListN.{drop, length, length-drop, take}
use lib.Seq.{take_all}

-- what the part &s[a..] holds
abbrev pub part : List ℕ → ℕ → List ℕ
part s a = take (length s - a) (drop a s)

pub part-drop : (s : List ℕ) (a : ℕ) → part s a ≡ drop a s
part-drop s a = take_all (length s - a) (drop a s) (simp length-drop (omega arith))

pub part_length : (s : List ℕ) (a : ℕ) → length (part s a) ≡ length s - a
part_length s a = ap length (part-drop s a) ∙ length-drop a s

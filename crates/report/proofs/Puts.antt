-- Text put into a buffer: a byte, one text after another, and a whole line.
use mathlib.Core.List.{List, [], ◌++◌, ◌∷◌, append_assoc}
use mathlib.Core.Path.{◌∙◌, ◌≡◌, ap}
use Prim.Native.Nat.{◌+◌, ◌<◌, ◌≤◌, ℕ}
use native.Mathlib.Numerals.{add-one}
use native.Mathlib.Omega.{arith}
use lib.ListN.{length, length-append, length-set, set, take}
use lib.Seq.{take-suc-set}
use Rattle.report.specs.Printing.{Printed, Put, line_bytes}

pub put_byte : (s : List ℕ) (at b : ℕ) → at < length s → Put s (set s at b) at (b ∷ []) (at + 1)
put_byte s at b h =
    record {
      size = length-set s at b;
      end = omega arith;
      bytes = rw add-one (take-suc-set s at b h);
    }

-- a text and then another
pub put_then : {s t u x y : List ℕ} {a b c : ℕ} → Put s t a x b → Put t u b y c → Put s u a (x ++ y) c
put_then {s} {t} {u} {x} {y} {a} p q =
    record {
      size = q.size ∙ p.size;
      end = omega (arith, length-append x y, p.end, q.end);
      bytes = q.bytes ∙ (ap (λ l. l ++ y) p.bytes ∙ append_assoc (take a s) x y);
    }

-- from the first byte on, within the buffer
pub put-printed : {s t x : List ℕ} {r : ℕ} → length s ≡ line_bytes → Put s t 0 x r → r ≤ line_bytes → Printed t x r
put-printed e p l = record { size = p.size ∙ e; within = l; text = p.bytes }

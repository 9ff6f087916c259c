-- The lines of an input: every input is lines that end and bytes after them, and `lines_of` gives these.
use mathlib.Core.Bool.{Bool, cond, false, true}
use mathlib.Core.List.{List, [], ◌++◌, ◌∷◌, append_assoc, append-nil}
use mathlib.Core.Path.{◌∙◌, ◌≡◌, ap, refl, sym}
use Prim.Native.Nat.{ℕ}
use lib.Dec.{eqb}
use borrow.Author.Tests.{eqb-true}
use Rattle.console.specs.Input.{AllUnbroken, Lines, Unbroken, ended, is_empty, lines_from, lines_of, newline}

-- every input is so
pub input-lines : (s : List ℕ) → Lines s
input-lines [] = record { whole = []; last = []; unbroken = (tt, tt); bytes = refl }
input-lines (b ∷ s) = go (eqb b newline) refl (input-lines s)
  where
    more : (ss : List (List ℕ)) (l : List ℕ) → eqb b newline ≡ false → AllUnbroken ss → Unbroken l →
        s ≡ ended ss ++ l → Lines (b ∷ s)
    more [] l e h k p =
        record { whole = []; last = b ∷ l; unbroken = (tt, (e, k)); bytes = ap (λ (t : List ℕ). b ∷ t) p }
    more (r ∷ ss) l e h k p = record {
      whole = (b ∷ r) ∷ ss;
      last = l;
      unbroken = (((e, h.0), h.1), k);
      bytes = ap (λ (t : List ℕ). b ∷ t) p;
    }

    go : (t : Bool) → eqb b newline ≡ t → Lines s → Lines (b ∷ s)
    go true e L = record {
      whole = [] ∷ L.whole;
      last = L.last;
      unbroken = ((tt, L.unbroken.0), L.unbroken.1);
      bytes = λ i. eqb-true b newline e i ∷ L.bytes i;
    }
    go false e L = more L.whole L.last e L.unbroken.0 L.unbroken.1 L.bytes

-- bytes that do not end a line are put to it
from-unbroken : (l rest line : List ℕ) → Unbroken l → lines_from (l ++ rest) line ≡ lines_from rest (line ++ l)
from-unbroken [] rest line h = ap (lines_from rest) (sym (append-nil line))
from-unbroken (b ∷ l) rest line h =
    rw h.0 (from-unbroken l rest (line ++ (b ∷ [])) h.1 ∙ ap (lines_from rest) (append_assoc line (b ∷ []) l))

-- the lines of such an input
pub lines_are : (ss : List (List ℕ)) (l : List ℕ) → AllUnbroken ss → Unbroken l →
    lines_from (ended ss ++ l) [] ≡ ss ++ cond (is_empty l) [] (l ∷ [])
lines_are [] l h k =
    ap (λ (s : List ℕ). lines_from s []) (sym (append-nil l)) ∙ from-unbroken l [] [] k
lines_are (s ∷ ss) l h k =
    ap (λ (t : List ℕ). lines_from t []) (append_assoc s (newline ∷ ended ss) l) ∙
    (from-unbroken s (newline ∷ (ended ss ++ l)) [] h.0 ∙
    ap (λ (r : List (List ℕ)). s ∷ r) (lines_are ss l h.1 k))

-- LINES: the lines that end, then the bytes after them, if there are any
pub lines-of : (input : List ℕ) (L : Lines input) →
    lines_of input ≡ L.whole ++ cond (is_empty L.last) [] (L.last ∷ [])
unfolding lines_of
lines-of input L =
    ap (λ (s : List ℕ). lines_from s []) L.bytes ∙ lines_are L.whole L.last L.unbroken.0 L.unbroken.1

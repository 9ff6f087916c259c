-- Parts of an input: fed one after the other, and byte by byte.
use mathlib.Core.List.{List, [], ◌++◌, ◌∷◌}
use mathlib.Core.Path.{◌∙◌, ◌≡◌, ap, refl, sym}
use Prim.Native.Nat.{◌+◌, ◌<◌, ℕ}
use native.Mathlib.Numerals.{add-one}
use lib.ListN.{get_or, length, take}
use lib.Seq.{take-suc}
use Rattle.console.specs.Console.{Console, fed, stepped}

-- one part after another is both in a row
pub fed-append : (s t : List ℕ) (x : Console) → fed x (s ++ t) ≡ fed (fed x s) t
fed-append [] t x = refl
fed-append (b ∷ s) t x = fed-append s t (stepped x b)

-- one byte more
pub fed-next : (x : Console) (s : List ℕ) (i : ℕ) → i < length s →
    stepped (fed x (take i s)) (get_or s i 0) ≡ fed x (take (i + 1) s)
fed-next x s i h =
    let e : take i s ++ (get_or s i 0 ∷ []) ≡ take (i + 1) s = rw add-one (sym (take-suc s i 0 h)) in
    sym (fed-append (take i s) (get_or s i 0 ∷ []) x) ∙ ap (fed x) e

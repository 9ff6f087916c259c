-- The first element of a list and the rest: of equal lists, and of what is left after a write.
use mathlib.Core.List.{List, ◌∷◌}
use mathlib.Core.Path.{◌∙◌, ◌≡◌}
use Prim.Native.Nat.{◌+◌, ◌<◌, suc, ℕ}
use native.Mathlib.Omega.{arith}
use lib.ListN.{drop, length, length-set, set}
use lib.Seq.{drop-cons, drop-set-lt, get_or-set_same}

pub head-same : (x y : ℕ) (xs ys : List ℕ) → (x ∷ xs) ≡ (y ∷ ys) → x ≡ y
head-same x y xs ys e = cc

pub tail-same : (x y : ℕ) (xs ys : List ℕ) → (x ∷ xs) ≡ (y ∷ ys) → xs ≡ ys
tail-same x y xs ys e = cc

pub drop-set : (s : List ℕ) (p v : ℕ) → p < length s → drop p (set s p v) ≡ v ∷ drop (p + 1) s
drop-set s p v h =
    let z : suc p ≡ p + 1 = omega arith in
    drop-cons (set s p v) p 0 (rw (length-set s p v) h)
    ∙ rw (get_or-set_same s p v 0 h, z, drop-set-lt (p + 1) s p v (omega arith))

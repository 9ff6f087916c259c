-- No names: a table of zeros.
use mathlib.Core.Path.{◌≡◌, refl}
use Prim.Native.Nat.{suc, zero, ℕ}
use lib.ListN.{get_or, length, length-replicate}
use Rattle.minimize.specs.Renaming.{zeros}

pub zeros-length : (n : ℕ) → length (zeros n) ≡ n
unfolding zeros
zeros-length n = length-replicate n 0

pub zeros-at : (n j : ℕ) → get_or (zeros n) j 0 ≡ 0
unfolding zeros
zeros-at zero j = refl
zeros-at (suc n) zero = refl
zeros-at (suc n) (suc j) = zeros-at n j

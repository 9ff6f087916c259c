-- Labels in bytes: reading undoes writing, writing undoes reading, and the bytes may be stored one by one.
use mathlib.Core.List.{List, [], ◌∷◌}
use mathlib.Core.Path.{◌≡◌}
use Prim.Native.Nat.{◌%◌, ◌+◌, ◌/◌, ◌<◌, ◌≤◌, suc, ℕ}
use native.Mathlib.Omega.{arith}
use lib.ListN.{get_or, set}
use lib.Seq.{sets}
use Rattle.format.specs.Format.{byte_values, label_from, label_written, max_label}

pub from-written : (a : ℕ) → label_from (a / byte_values) (a % byte_values) ≡ a
from-written a = omega arith

pub written_from : (h l : ℕ) → l < byte_values → label_written (label_from h l) ≡ h ∷ l ∷ []
written_from h l b =
    let high : label_from h l / byte_values ≡ h = omega arith in
    let low : label_from h l % byte_values ≡ l = omega arith in
    λ i. high i ∷ low i ∷ []

pub from-most : (h l : ℕ) → h < byte_values → l < byte_values → label_from h l ≤ max_label
from-most h l a b = omega arith

pub label-stored : (s : List ℕ) (at a : ℕ) {b : List ℕ} → a ≤ max_label →
    b ≡ a / byte_values % byte_values ∷ a % byte_values ∷ [] →
    set (set s at (get_or b 0 0)) (at + 1) (get_or b 1 0) ≡ sets s at (label_written a)
label-stored s at a small e =
    let z : at + 1 ≡ suc at = omega arith in
    let high : a / byte_values % byte_values ≡ a / byte_values = omega (arith, small) in
    rw (z, e, high)

-- A loop that zeroes bytes.
use mathlib.Core.List.{List}
use mathlib.Core.Path.{◌∙◌, ◌≡◌, ap, refl, sym}
use Prim.Native.Nat.{◌+◌, ◌<◌, ◌≤◌, ℕ}
use native.Mathlib.Numerals.{add-one}
use native.Mathlib.Omega.{arith}
use lib.ListN.{length, length-set, replicate, replicate-append-replicate, set, take}
use lib.Seq.{take_all, take-suc-set}

-- of n bytes the first i are 0
pub record ClearedTo (n : ℕ) (l : List ℕ) (i : ℕ) : Type 0 where
  pub size : length l ≡ n
  pub within : i ≤ n
  pub zeros : take i l ≡ replicate i 0

pub cleared-start : {n : ℕ} (l : List ℕ) → length l ≡ n → ClearedTo n l 0
cleared-start l e = record { size = e; within = omega arith; zeros = refl }

pub cleared-next : {n : ℕ} {l : List ℕ} {i : ℕ} → ClearedTo n l i → i < n → ClearedTo n (set l i 0) (i + 1)
cleared-next {n} {l} {i} x h = record {
  size = length-set l i 0 ∙ x.size;
  within = omega arith;
  zeros =
      rw (add-one i, take-suc-set l i 0 (omega (arith, x.size)), x.zeros)
      (replicate-append-replicate i 1 0 ∙ rw (add-one i));
}

pub cleared-end : {n : ℕ} {l : List ℕ} {i : ℕ} → ClearedTo n l i → n ≤ i → l ≡ replicate n 0
cleared-end {n} {l} {i} x h =
    let e : n ≡ i = omega (arith, x.within) in
    sym (take_all i l (omega (arith, x.size))) ∙ x.zeros ∙ ap (λ k. replicate k 0) (sym e)

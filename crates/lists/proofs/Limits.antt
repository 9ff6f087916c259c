-- Numbers up to a limit: the lesser of a limit and a number respects sums and products.
use mathlib.Core.Bool.{Bool, cond, false, true}
use mathlib.Core.Path.{◌∙◌, ◌≡◌, ap, refl, sym}
use Prim.Native.Nat.{◌*◌, ◌+◌, ◌≤◌, min, suc, zero, ℕ}
use native.Mathlib.Nat.{le-mul_of_pos_right, mul_comm, mul-le-mul_right, mul-zero}
use native.Mathlib.Omega.{arith}
use lib.Dec.{leb}
use borrow.Author.Tests.{leb-false, leb-true}

pub min-sum : (c x y : ℕ) → min c (x + y) ≡ min c (min c x + min c y)
min-sum c x y = omega arith

-- sums of numbers that are equal up to the limit
pub min-add : (c x y u v : ℕ) → min c x ≡ min c y → min c u ≡ min c v → min c (x + u) ≡ min c (y + v)
min-add c x y u v d e = min-sum c x u ∙ (λ i. min c (d i + e i)) ∙ sym (min-sum c y v)

-- a number that is there if a test passes
pub min-if : (c : ℕ) (b : Bool) (x y : ℕ) → min c x ≡ min c y → min c (cond b x 0) ≡ min c (cond b y 0)
min-if c true x y e = e
min-if c false x y e = refl

-- one factor up to the limit
min-factor : (c x y : ℕ) → min c (x * y) ≡ min c (min c x * y)
min-factor c x zero = ap (min c) (mul-zero x ∙ omega (arith, mul-zero (min c x)))
min-factor c x (suc y) = go (leb x c) refl
  where
    go : (b : Bool) → leb x c ≡ b → min c (x * suc y) ≡ min c (min c x * suc y)
    go true e = let m : min c x ≡ x = omega (arith, leb-true x c e) in rw m
    go false e =
        let h = leb-false x c e in
        let m : min c x ≡ c = omega arith in
        let f : c ≤ c * suc y = le-mul_of_pos_right c (omega arith) in
        let g : c * suc y ≤ x * suc y = mul-le-mul_right (suc y) (omega arith) in
        rw m (omega arith)

pub min-product : (c x y : ℕ) → min c (x * y) ≡ min c (min c x * min c y)
min-product c x y =
    min-factor c x y ∙ ap (min c) (mul_comm (min c x) y) ∙ min-factor c y (min c x)
    ∙ ap (min c) (mul_comm (min c y) (min c x))

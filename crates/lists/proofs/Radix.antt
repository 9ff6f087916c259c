-- Two digits as one number: the first counts m times as much as the second, and division with rest undoes it.
use mathlib.Core.Path.{◌∙◌, ◌≡◌}
use Prim.Native.Nat.{◌%◌, ◌*◌, ◌+◌, ◌/◌, ◌<◌, ◌≤◌, suc, zero, ℕ}
use native.Mathlib.Nat.{div-eq_of_lt, div-lt_iff_lt-mul, mod-eq_of_lt, mod-lt, mul-add-div_right}
use native.Mathlib.Nat.{mul-add-mod_self_right, mul-le-mul_right, mul-zero, suc-mul}
use native.Mathlib.Omega.{arith}

-- a lesser first digit is less, whatever the second ones are
pub radix-before : (x y u v m : ℕ) → x < u → y < m → x * m + y < u * m + v
radix-before x y u v m h l =
    let e : suc x * m ≤ u * m = mul-le-mul_right m (omega arith) in omega (arith, suc-mul x m)

pub radix-less : (x y n m : ℕ) → x < n → y < m → x * m + y < n * m
radix-less x y n m h l = omega (arith, radix-before x y n 0 m h l)

pub radix-first : (x y m : ℕ) → y < m → (x * m + y) / m ≡ x
radix-first x y m l =
    let p : 0 < m = omega arith in
    let z : y / m ≡ 0 = div-eq_of_lt l in
    mul-add-div_right p x y ∙ omega arith

pub radix-second : (x y m : ℕ) → y < m → (x * m + y) % m ≡ y
radix-second x y m l = mul-add-mod_self_right x m y ∙ mod-eq_of_lt l

pub factor-second : (x y : ℕ) → 1 ≤ x * y → 1 ≤ y
factor-second x zero h = absurd (omega (arith, mul-zero x))
factor-second x (suc y) h = omega arith

-- the digits of a number below the product
pub digit-first : (k n m : ℕ) → k < n * m → k / m < n
digit-first k n m h =
    let p : 0 < m = factor-second n m (omega arith) in (div-lt_iff_lt-mul p).1 h

pub digit-second : (k n m : ℕ) → k < n * m → k % m < m
digit-second k n m h =
    let p : 0 < m = factor-second n m (omega arith) in mod-lt k p

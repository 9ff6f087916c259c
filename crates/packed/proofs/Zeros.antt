-- Digits to base 256 with zeros after them.
use mathlib.Core.Path.{◌∙◌, ◌≡◌, ap, sym}
use Prim.Native.Nat.{◌%◌, ◌*◌, ◌+◌, ◌-◌, ◌<◌, ◌^◌, ◌≤◌, suc, ℕ}
use native.Mathlib.Nat.{mod-eq_of_lt, zero-mul}
use native.Mathlib.Omega.{arith}
use lib.Pow.{pow_mono, shl_lt}
use Rattle.format.specs.Format.{byte_values, max_arity}
use Rattle.packed.specs.Packed.{digits, pad_to}
use Rattle.packed.proofs.Digits.{digit-more, digits_same}
use Rattle.packed.proofs.Shifts.{digits-cut, digits-none, digits-split}

pub pad-none : (arity prefix : ℕ) → arity ≡ 0 → prefix < 2 ^ (8 * arity) → 0 ≡ pad_to arity prefix
pad-none arity prefix e h =
    let l : prefix < 2 ^ (8 * 0) = rw e at h in
    let z : prefix ≡ 0 = omega arith in
    sym (ap (λ (p : ℕ). pad_to arity p) z ∙ zero-mul (2 ^ (8 * (max_arity - arity))))

pub pad-shift : (arity prefix : ℕ) → arity ≤ max_arity → prefix < 2 ^ (8 * arity) →
    (prefix * 2 ^ (8 * (8 - arity))) % 18446744073709551616 ≡ pad_to arity prefix
pad-shift arity prefix h l =
    let e : 8 * arity + 8 * (8 - arity) ≡ 64 = omega arith in
    let g : prefix * 2 ^ (8 * (8 - arity)) < 2 ^ 64 = rw e at (shl_lt {a = prefix} (8 * arity) (8 * (8 - arity)) l) in
    mod-eq_of_lt g

-- a number with one digit more is still within its bound
pub digit-below : (k v w : ℕ) → v < 2 ^ (8 * k) → w < byte_values * v + byte_values → w < 2 ^ (8 * (k + 1))
digit-below k v w h l =
    let e : k + 1 ≡ suc k = omega arith in
    let d : 2 ^ (8 * (k + 1)) ≡ 2 ^ (8 * k) * byte_values = ap (λ (j : ℕ). 2 ^ (8 * j)) e ∙ digit-more k in
    omega (arith, d)

pub digits-room : (k v : ℕ) → k < max_arity → v < 2 ^ (8 * k) → v < 2 ^ 56
digits-room k v h l = omega (arith, pow_mono {i = 8 * k} {j = 56} (omega arith))

-- if the digits from n on are 0, padding the first n gives all eight
pub pad-digits : (f : ℕ → ℕ) (n : ℕ) → n ≤ max_arity → ((k : ℕ) → n ≤ k → k < max_arity → f k ≡ 0) →
    pad_to n (digits f 0 n 0) ≡ digits f 0 max_arity 0
pad-digits f n h z =
    let m = max_arity - n in
    let v = digits f 0 n 0 in
    let e : max_arity ≡ n + m = omega arith in
    let d : 0 + n ≡ n = omega arith in
    let zeros : digits f n m 0 ≡ 0 =
    digits_same f (λ _. 0) n m 0 (λ k l g. z k l (omega arith)) ∙ digits-none n m in
    let cut : digits f 0 max_arity 0 ≡ digits f n m v =
    ap (λ (j : ℕ). digits f 0 j 0) e ∙ digits-cut f n 0 m 0 ∙ ap (λ (j : ℕ). digits f j m v) d in
    omega (arith, cut, digits-split f n m v, zeros)

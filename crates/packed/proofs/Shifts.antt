-- A number of eight digits shifted to the left: the first digits are lost, the others remain.
use mathlib.Core.Bool.{Bool, ◌&&◌, and_assoc, and-true, false, true}
use mathlib.Core.Path.{◌∙◌, ◌≡◌, ap, refl, sym}
use Prim.Native.Nat.{◌%◌, ◌*◌, ◌+◌, ◌-◌, ◌<◌, ◌^◌, suc, zero, ℕ}
use native.Mathlib.Nat.{add-mul, add-zero, mul_assoc, mul-pos, zero-add, zero-mul}
use native.Mathlib.Omega.{arith}
use lib.Dec.{eqb}
use lib.Pow.{low, pow-add, pow_pos, shl_lt}
use borrow.Author.Tests.{eq-eqb, eqb-false, eqb-true, ne_eqb}
use Rattle.format.specs.Format.{byte_values, max_arity}
use Rattle.lists.specs.Positions.{up_from}
use Rattle.lists.specs.Tests.{every}
use Rattle.packed.specs.Packed.{digits}
use Rattle.packed.proofs.Digits.{digit-more, digits-lower}

-- two numbers of which one is 0 if and only if the other is
zero-together : (x y : ℕ) → (x ≡ 0 → y ≡ 0) → (y ≡ 0 → x ≡ 0) → eqb x 0 ≡ eqb y 0
zero-together x y f g = go (eqb x 0) refl
  where
    go : (b : Bool) → eqb x 0 ≡ b → b ≡ eqb y 0
    go true d = sym (eq-eqb y 0 (f (eqb-true x 0 d)))
    go false d = sym (ne_eqb y 0 (λ e. eqb-false x 0 d (g e)))

-- v followed by digits, as a sum
pub digits-split : (f : ℕ → ℕ) (k n v : ℕ) → digits f k n v ≡ v * 2 ^ (8 * n) + digits f k n 0
digits-split f k zero v = omega arith
digits-split f k (suc n) v =
    let r = 2 ^ (8 * n) in
    let more : v * 2 ^ (8 * suc n) ≡ v * r * byte_values =
    ap (λ y. v * y) (digit-more n) ∙ sym (mul_assoc v r byte_values) in
    let first = digits-split f (suc k) n (byte_values * v + f k) in
    let second = digits-split f (suc k) n (byte_values * 0 + f k) in
    let left : (byte_values * v + f k) * r ≡ byte_values * (v * r) + f k * r =
    add-mul (byte_values * v) (f k) r ∙ ap (λ y. y + f k * r) (mul_assoc byte_values v r) in
    let right : (byte_values * 0 + f k) * r ≡ f k * r = ap (λ y. y * r) (zero-add (f k)) in
    omega (arith, more, first, second, left, right)

-- m digits, and then n more
pub digits-cut : (f : ℕ → ℕ) (m k n v : ℕ) → digits f k (m + n) v ≡ digits f (k + m) n (digits f k m v)
digits-cut f zero k n v = ap (λ j. digits f k j v) (zero-add n) ∙ ap (λ j. digits f j n v) (sym (add-zero k))
digits-cut f (suc m) k n v =
    let e : suc m + n ≡ suc (m + n) = omega arith in
    let d : suc k + m ≡ k + suc m = omega arith in
    ap (λ j. digits f k j v) e ∙ digits-cut f m (suc k) n (byte_values * v + f k)
    ∙ ap (λ j. digits f j n (digits f k (suc m) v)) d

pub digits-none : (k n : ℕ) → digits (λ _. 0) k n 0 ≡ 0
digits-none k zero = refl
digits-none k (suc n) = digits-none (suc k) n

module _ (f : ℕ → ℕ) (small : (j : ℕ) → f j < byte_values) where
  pub digits-below : (k n : ℕ) → digits f k n 0 < 2 ^ (8 * n)
  digits-below k n =
      omega (
        arith,
        digits-lower f (λ _. 0) small (λ _. omega arith) k n 0 1 (omega arith),
        digits-split (λ _. 0) k n 1,
        digits-none k n,
      )

  -- a number is 0 if and only if all its digits are
  digits-zero : (n k v : ℕ) → eqb (digits f k n v) 0 ≡ (eqb v 0 && every (λ j. eqb (f j) 0) (up_from k n))
  digits-zero zero k v = sym (and-true (eqb v 0))
  digits-zero (suc n) k v =
      digits-zero n (suc k) (byte_values * v + f k)
      ∙ ap (λ b. b && every (λ j. eqb (f j) 0) (up_from (suc k) n)) (both (eqb v 0) refl)
      ∙ and_assoc (eqb v 0) (eqb (f k) 0) (every (λ j. eqb (f j) 0) (up_from (suc k) n))
    where
      both : (b : Bool) → eqb v 0 ≡ b → eqb (byte_values * v + f k) 0 ≡ (b && eqb (f k) 0)
      both true d = let e = eqb-true v 0 d in
          zero-together (byte_values * v + f k) (f k) (λ h. omega arith) (λ h. omega arith)
      both false d = let e = eqb-false v 0 d in ne_eqb (byte_values * v + f k) 0 (λ h. omega arith)

  -- eight digits with the first a shifted out are 0 if and only if the others are
  pub shifted-zero : (a : ℕ) → a < max_arity →
      eqb ((digits f 0 max_arity 0 * 2 ^ (8 * a)) % 2 ^ 64) 0 ≡ every (λ j. eqb (f j) 0) (up_from a (max_arity - a))
  shifted-zero a h =
      zero-together ((digits f 0 max_arity 0 * 2 ^ (8 * a)) % 2 ^ 64) l (λ e. none e) (λ e. some e)
      ∙ digits-zero n a 0
    where
      n : ℕ
      n = max_arity - a

      l : ℕ
      l = digits f a n 0

      s : ℕ
      s = 2 ^ (8 * a)

      whole : digits f 0 max_arity 0 ≡ digits f 0 a 0 * 2 ^ (8 * n) + l
      whole = let e : a + n ≡ max_arity = omega arith in
          ap (λ j. digits f 0 j 0) (sym e) ∙ digits-cut f a 0 n 0
          ∙ ap (λ j. digits f j n (digits f 0 a 0)) (zero-add a) ∙ digits-split f a n (digits f 0 a 0)

      full : 2 ^ (8 * n) * s ≡ 2 ^ 64
      full = let e : 8 * n + 8 * a ≡ 64 = omega arith in sym (pow-add 2 (8 * n) (8 * a)) ∙ ap (λ j. 2 ^ j) e

      fits : l * s < 2 ^ 64
      fits = let e : 8 * n + 8 * a ≡ 64 = omega arith in
          rw e at (shl_lt {a = l} (8 * n) (8 * a) (digits-below a n))

      shifted : (digits f 0 max_arity 0 * s) % 2 ^ 64 ≡ l * s
      shifted =
          ap (λ j. (j * s) % 2 ^ 64) whole
          ∙ ap (λ j. j % 2 ^ 64)
          (add-mul (digits f 0 a 0 * 2 ^ (8 * n)) l s
          ∙ ap (λ j. j + l * s) (mul_assoc (digits f 0 a 0) (2 ^ (8 * n)) s ∙ ap (λ j. digits f 0 a 0 * j) full))
          ∙ low (digits f 0 a 0) 64 fits

      none : (digits f 0 max_arity 0 * s) % 2 ^ 64 ≡ 0 → l ≡ 0
      none e = go (eqb l 0) refl
        where
          go : (b : Bool) → eqb l 0 ≡ b → l ≡ 0
          go true d = eqb-true l 0 d
          go false d =
              let z = eqb-false l 0 d in
              let q : 0 < l = omega arith in
              let p : 0 < l * s = mul-pos q (pow_pos (8 * a)) in
              absurd (omega (arith, shifted))

      some : l ≡ 0 → (digits f 0 max_arity 0 * s) % 2 ^ 64 ≡ 0
      some e = shifted ∙ ap (λ j. j * s) e ∙ zero-mul s

-- A number in decimal: one digit below 10, else a tenth of it and then the last digit; and how many digits it has.
use mathlib.Core.Bool.{false, true}
use mathlib.Core.List.{[], ◌++◌, ◌∷◌}
use mathlib.Core.Logic.{◌⊎◌, inl, inr}
use mathlib.Core.Path.{◌≡◌}
use Prim.Native.Nat.{◌%◌, ◌*◌, ◌+◌, ◌/◌, ◌<◌, ◌≤◌, suc, zero, ℕ}
use native.Mathlib.Omega.{arith}
use lib.Dec.{ltb}
use lib.ListN.{length, length-append}
use borrow.Author.Tests.{le-ltb, lt-ltb, ltb-false, ltb-true}
use Rattle.lists.specs.Decimal.{decimal, digit, digits}
use Rattle.lists.proofs.Tests.{test}

-- any bound above the number serves
digits-enough : (k j n : ℕ) → n < k → n < j → digits k n ≡ digits j n
unfolding digits
digits-enough zero j n h l = absurd (omega arith)
digits-enough (suc k) zero n h l = absurd (omega arith)
digits-enough (suc k) (suc j) n h l = go (test (ltb n 10)) (λ p q. digits-enough k j (n / 10) p q)
  where
    go : (ltb n 10 ≡ true) ⊎ (ltb n 10 ≡ false) →
        (n / 10 < k → n / 10 < j → digits k (n / 10) ≡ digits j (n / 10)) → digits (suc k) n ≡ digits (suc j) n
    go (inl e) ih = rw e
    go (inr e) ih =
        let m : 10 ≤ n = ltb-false n 10 e in rw (e, ih (omega arith) (omega arith))

pub decimal_digit : (n : ℕ) → n < 10 → decimal n ≡ digit n ∷ []
unfolding decimal digits
decimal_digit n h = rw (lt-ltb n 10 h)

pub decimal-more : (n : ℕ) → 10 ≤ n → decimal n ≡ decimal (n / 10) ++ (digit (n % 10) ∷ [])
unfolding decimal digits
decimal-more n h =
    rw (le-ltb n 10 h, digits-enough n (suc (n / 10)) (n / 10) (omega arith) (omega arith))

pub decimal-more-length : (n : ℕ) → 10 ≤ n → length (decimal n) ≡ length (decimal (n / 10)) + 1
decimal-more-length n h = rw (decimal-more n h, length-append)

-- 10 multiplied k times
abbrev pub tens : ℕ → ℕ
tens zero = 1
tens (suc k) = 10 * tens k

pub decimal-length : (k n : ℕ) → n < tens (suc k) → length (decimal n) ≤ suc k
decimal-length zero n h = rw (decimal_digit n (omega arith)) (omega arith)
decimal-length (suc k) n h = go (test (ltb n 10)) (λ p. decimal-length k (n / 10) p)
  where
    go : (ltb n 10 ≡ true) ⊎ (ltb n 10 ≡ false) →
        (n / 10 < tens (suc k) → length (decimal (n / 10)) ≤ suc k) → length (decimal n) ≤ suc (suc k)
    go (inl e) ih = rw (decimal_digit n (ltb-true n 10 e)) (omega arith)
    go (inr e) ih = omega (arith, decimal-more-length n (ltb-false n 10 e), ih (omega arith))

pub decimal-some : (n : ℕ) → 1 ≤ length (decimal n)
decimal-some n = go (test (ltb n 10))
  where
    go : (ltb n 10 ≡ true) ⊎ (ltb n 10 ≡ false) → 1 ≤ length (decimal n)
    go (inl e) = rw (decimal_digit n (ltb-true n 10 e)) (omega arith)
    go (inr e) = omega (arith, decimal-more-length n (ltb-false n 10 e))

-- Loops over the numbers of an interval: the answer of the whole is the answer of what is left. Each loop
-- begins, goes on, stops early and ends by one law.
use mathlib.Core.Bool.{Bool, ◌&&◌, and_assoc, and-true, false, true}
use mathlib.Core.List.{[], ◌∷◌}
use mathlib.Core.Path.{◌∙◌, ◌≡◌, ap, sym}
use Prim.Native.Nat.{◌+◌, ◌-◌, ◌<◌, ◌≤◌, suc, ℕ}
use native.Mathlib.Numerals.{add-one}
use native.Mathlib.Omega.{arith}
use Rattle.lists.specs.Positions.{up_from}
use Rattle.lists.specs.Tests.{any, every}

-- the numbers left from i on
pub up_from-next : (i n : ℕ) → i < n → up_from i (n - i) ≡ i ∷ up_from (i + 1) (n - (i + 1))
up_from-next i n h = let e : n - i ≡ suc (n - (i + 1)) = omega arith in rw (e, add-one)

pub up_from-none : (i n : ℕ) → n ≤ i → up_from i (n - i) ≡ []
up_from-none i n h = let e : n - i ≡ 0 = omega arith in rw e

pub up_from-whole : (k m n : ℕ) → k + m ≡ n → up_from k m ≡ up_from k (n - k)
up_from-whole k m n e = let d : m ≡ n - k = omega arith in ap (up_from k) d

-- a loop at i, with n its end: s says whether every number left passes
pub record EveryFrom (s : Bool) (p : ℕ → Bool) (n i : ℕ) : Type 0 where
  pub within : i ≤ n
  pub left : s ≡ every p (up_from i (n - i))

module _ {p : ℕ → Bool} {n : ℕ} where
  pub every-start : {k : ℕ} (m : ℕ) → k + m ≡ n → EveryFrom (every p (up_from k m)) p n k
  every-start {k} m e = record { within = omega arith; left = ap (every p) (up_from-whole k m n e) }

  pub every-next : {s : Bool} {i : ℕ} → EveryFrom s p n i → i < n → p i ≡ true → EveryFrom s p n (i + 1)
  every-next {s} {i} inv h e = record { within = omega arith; left = inv.left ∙ rw (up_from-next i n h, e) }

  pub every-broken : {s : Bool} {i : ℕ} → EveryFrom s p n i → i < n → p i ≡ false → false ≡ s
  every-broken {s} {i} inv h e = sym (inv.left ∙ rw (up_from-next i n h, e))

  pub every-end : {s : Bool} {i : ℕ} → EveryFrom s p n i → n ≤ i → true ≡ s
  every-end {s} {i} inv h = sym (inv.left ∙ rw (up_from-none i n h))

-- a loop at i, with n its end: s says whether some number left passes
pub record AnyFrom (s : Bool) (p : ℕ → Bool) (n i : ℕ) : Type 0 where
  pub within : i ≤ n
  pub left : s ≡ any p (up_from i (n - i))

module _ {p : ℕ → Bool} {n : ℕ} where
  pub any-start : {k : ℕ} (m : ℕ) → k + m ≡ n → AnyFrom (any p (up_from k m)) p n k
  any-start {k} m e = record { within = omega arith; left = ap (any p) (up_from-whole k m n e) }

  pub any_next : {s : Bool} {i : ℕ} → AnyFrom s p n i → i < n → p i ≡ false → AnyFrom s p n (i + 1)
  any_next {s} {i} inv h e = record { within = omega arith; left = inv.left ∙ rw (up_from-next i n h, e) }

  pub any_found : {s : Bool} {i : ℕ} → AnyFrom s p n i → i < n → p i ≡ true → true ≡ s
  any_found {s} {i} inv h e = sym (inv.left ∙ rw (up_from-next i n h, e))

  pub any-end : {s : Bool} {i : ℕ} → AnyFrom s p n i → n ≤ i → false ≡ s
  any-end {s} {i} inv h = sym (inv.left ∙ rw (up_from-none i n h))

-- a loop at i, with n its end: s says whether the test passed so far, which b says, and passes for every number left
pub record CleanFrom (s b : Bool) (p : ℕ → Bool) (n i : ℕ) : Type 0 where
  pub within : i ≤ n
  pub left : s ≡ (b && every p (up_from i (n - i)))

module _ {p : ℕ → Bool} {n : ℕ} where
  pub clean-start : {k : ℕ} (m : ℕ) → k + m ≡ n → CleanFrom (every p (up_from k m)) true p n k
  clean-start {k} m e = record { within = omega arith; left = ap (every p) (up_from-whole k m n e) }

  pub clean-next : {s b r : Bool} {i : ℕ} → CleanFrom s b p n i → i < n → r ≡ p i → CleanFrom s (b && r) p n (i + 1)
  clean-next {s} {b} {r} {i} inv h e = record {
    within = omega arith;
    left = inv.left ∙ rw (up_from-next i n h, ← e) (sym (and_assoc b r (every p (up_from (i + 1) (n - (i + 1))))));
  }

  pub clean_end : {s b : Bool} {i : ℕ} → CleanFrom s b p n i → n ≤ i → b ≡ s
  clean_end {s} {b} {i} inv h = sym (inv.left ∙ rw (up_from-none i n h) (and-true b))

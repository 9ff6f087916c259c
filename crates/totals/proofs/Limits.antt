-- What is said of a number, and what it is worth: sums and products up to the limit.
use mathlib.Core.Bool.{Bool, false, false≢true, true, true≢false}
use mathlib.Core.Logic.{◌⊎◌, inl, inr}
use mathlib.Core.Path.{◌∙◌, ◌≡◌, ap, ap₂, refl, sym}
use Prim.Native.Nat.{◌*◌, ◌+◌, ◌<◌, ◌≤◌, min, ℕ}
use native.Mathlib.Omega.{arith}
use lib.Dec.{ltb}
use borrow.Author.Tests.{eqb-false, eqb-true, le-ltb, lt-ltb, ltb-false, ltb-true}
use Rattle.std.proofs.lemmas.Bool.{true_from_ne_false}
use Rattle.std.specs.Option.{SomeIff, is_some, option_eq}
use Rattle.std.specs.declared.option.Option.{Option}
use Rattle.std.specs.declared.option.Option.TheVariants.{None, Some}
use Rattle.lists.proofs.Limits.{min-product}
use Rattle.totals.specs.Limited.{limit, total_of, worth}
use Rattle.std.specs.Prelude.{nat_eq}

pub total-number : {n : ℕ} → n < limit → Some n ≡ total_of n
unfolding total_of
total-number {n} h = rw (lt-ltb n limit h)

pub total-is : {n k : ℕ} → n ≡ k → k < limit → Some n ≡ total_of k
total-is e h = ap (λ (m : ℕ). Some m) e ∙ total-number h

pub total-over : {n : ℕ} → limit ≤ n → None ≡ total_of n
unfolding total_of
total-over {n} h = rw (le-ltb n limit h)

pub worth-total : (n : ℕ) → worth (total_of n) ≡ min limit n
worth-total n = go (ltb n limit) refl
  where
    go : (b : Bool) → ltb n limit ≡ b → worth (total_of n) ≡ min limit n
    go true e = let h = ltb-true n limit e in ap worth (sym (total-number h)) ∙ omega arith
    go false e = let h = ltb-false n limit e in ap worth (sym (total-over h)) ∙ omega arith

-- what a number that fits, or none, says of the number itself
pub total-fits : {v : ℕ} (x : ℕ) → Some v ≡ total_of x → x < limit
total-fits {v} x e = ltb-true x limit (true_from_ne_false (ltb x limit)
    (λ d. true≢false (ap is_some (e ∙ sym (total-over (ltb-false x limit d))))))

pub total-some : {v : ℕ} (x : ℕ) → Some v ≡ total_of x → v ≡ x
total-some {v} x e = omega (arith, total-fits x e, ap worth e, worth-total x)

pub total-none : (x : ℕ) → None ≡ total_of x → limit ≤ x
total-none x e = omega (arith, ap worth e, worth-total x)

-- a result of checked arithmetic
pub total-checked : (n : ℕ) (r : Option ℕ) → SomeIff r (n < limit) n → r ≡ total_of n
total-checked n None h = total-over (omega (arith, h))
total-checked n (Some v) (h, e) = total-is e (omega (arith, h, e))

-- what is said of a number, by whether it fits. The first part gives a search the call to look for
pub total_cases : (n : ℕ) → (total_of n ≡ total_of n) ×
    (((n < limit) × (total_of n ≡ Some n)) ⊎ ((limit ≤ n) × (total_of n ≡ None)))
total_cases n = (refl, go (ltb n limit) refl)
  where
    go : (b : Bool) → ltb n limit ≡ b →
        ((n < limit) × (total_of n ≡ Some n)) ⊎ ((limit ≤ n) × (total_of n ≡ None))
    go true e = let h = ltb-true n limit e in inl (h, sym (total-number h))
    go false e = let h = ltb-false n limit e in inr (h, sym (total-over h))

-- whether a number is 0
pub none-zero : (a : Option ℕ) → option_eq nat_eq a (Some 0) ≡ true → worth a ≡ 0
none-zero None e = absurd (false≢true e)
none-zero (Some v) e = eqb-true v 0 e

pub some-not-zero : (a : Option ℕ) → option_eq nat_eq a (Some 0) ≡ false → 1 ≤ worth a
some-not-zero None e = omega arith
some-not-zero (Some v) e = omega (arith, eqb-false v 0 e)

-- ---- the same up to the limit

pub total-same : (x y : ℕ) → min limit x ≡ min limit y → total_of x ≡ total_of y
total-same x y e = go (ltb x limit) refl
  where
    go : (b : Bool) → ltb x limit ≡ b → total_of x ≡ total_of y
    go true d = let h = ltb-true x limit d in let f : x ≡ y = omega arith in ap total_of f
    go false d = let h = ltb-false x limit d in sym (total-over h) ∙ total-over (omega arith)

pub total-plus : (x y : ℕ) {s t : Option ℕ} → s ≡ total_of x → t ≡ total_of y →
    total_of (worth s + worth t) ≡ total_of (x + y)
total-plus x y {s} {t} e f =
    total-same (worth s + worth t) (x + y) (omega (arith, ap worth e, worth-total x, ap worth f, worth-total y))

pub total-times : (x y : ℕ) {s t : Option ℕ} → s ≡ total_of x → t ≡ total_of y →
    total_of (worth s * worth t) ≡ total_of (x * y)
total-times x y {s} {t} e f =
    total-same (worth s * worth t) (x * y)
    (ap₂ (λ (u v : ℕ). min limit (u * v)) (ap worth e ∙ worth-total x) (ap worth f ∙ worth-total y)
    ∙ sym (min-product limit x y))

-- what a number is worth says the same of it
pub total-kept : (x : ℕ) {s : Option ℕ} → s ≡ total_of x → total_of (worth s) ≡ total_of x
total-kept x {s} e = total-same (worth s) x (omega (arith, ap worth e, worth-total x))

-- the same with a second number as it is
pub total-plus-by : (x y : ℕ) {s : Option ℕ} → s ≡ total_of x → total_of (worth s + y) ≡ total_of (x + y)
total-plus-by x y {s} e = total-same (worth s + y) (x + y) (omega (arith, ap worth e, worth-total x))

pub total-times-by : (x y : ℕ) {s : Option ℕ} → s ≡ total_of x → total_of (worth s * y) ≡ total_of (x * y)
total-times-by x y {s} e =
    let i : min limit (min limit x) ≡ min limit x = omega arith in
    total-same (worth s * y) (x * y)
    (ap (λ (u : ℕ). min limit (u * y)) (ap worth e ∙ worth-total x) ∙ min-product limit (min limit x) y
    ∙ ap (λ (u : ℕ). min limit (u * min limit y)) i ∙ sym (min-product limit x y))

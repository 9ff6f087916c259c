-- Numbers of 64 bits beside numbers of trees up to the limit: compared and divided, they are as beside the numbers
-- themselves.
use mathlib.Core.Bool.{Bool, false, true}
use mathlib.Core.Path.{◌∙◌, ◌≡◌, ap, refl, sym}
use Prim.Native.Nat.{◌%◌, ◌/◌, ◌<◌, ◌≤◌, ℕ}
use native.Mathlib.Nat.{div-eq_of_lt, mod-eq_of_lt}
use native.Mathlib.Omega.{arith}
use lib.Dec.{ltb}
use borrow.Author.Tests.{ltb-false, ltb-true}
use Rattle.std.specs.declared.option.Option.{Option}
use Rattle.totals.specs.Limited.{limit, total_of, worth}
use Rattle.totals.proofs.Limits.{worth-total}

module _ (k x : ℕ) {h : Option ℕ} (fits : k < limit) (e : h ≡ total_of x) where
  is-worth : worth h ≡ worth (total_of x)
  is-worth = ap worth e

  pub some-worth : 1 ≤ x → 1 ≤ worth h
  some-worth l = omega (arith, is-worth, worth-total x)

  -- the number itself, or both are above k
  either : (P : ℕ → Type 0) → P x → (limit ≤ x → P limit) → P (worth h)
  either P p q = go (ltb x limit) refl
    where
      go : (b : Bool) → ltb x limit ≡ b → P (worth h)
      go true d =
          let z : worth h ≡ x = omega (arith, ltb-true x limit d, is-worth, worth-total x) in rw z p
      go false d =
          let l = ltb-false x limit d in
          let z : worth h ≡ limit = omega (arith, is-worth, worth-total x) in rw z (q l)

  pub divided-number : k / worth h ≡ k / x
  divided-number =
      either (λ n. k / n ≡ k / x) refl (λ l.
      let d : k < x = omega arith in div-eq_of_lt fits ∙ sym (div-eq_of_lt d))

  pub remainder-number : k % worth h ≡ k % x
  remainder-number =
      either (λ n. k % n ≡ k % x) refl (λ l.
      let d : k < x = omega arith in mod-eq_of_lt fits ∙ sym (mod-eq_of_lt d))

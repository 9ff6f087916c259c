-- n elements that have different numbers below n have them all.
use mathlib.Core.Bool.{Bool, false, true, true≢false}
use mathlib.Core.List.{List, ◌∷◌, map}
use mathlib.Core.Logic.{inl, inr}
use mathlib.Core.Path.{◌∙◌, ◌≡◌, ap, refl, subst, sym}
use Prim.Native.Nat.{◌<◌, ℕ}
use native.Mathlib.Omega.{arith}
use lib.Dec.{eqb}
use lib.ListN.{length-map}
use borrow.Author.Tests.{eqb-true}
use Rattle.lists.specs.Closure.{elem}
use Rattle.lists.specs.Positions.{up_from}
use Rattle.lists.specs.Tests.{Counts, Distinct, ◌∈◌}
use Rattle.lists.proofs.Closure.{elem_in, in-elem}
use Rattle.lists.proofs.Distinct.{distinct-length, map-distinct}
use Rattle.lists.proofs.Positions.{in-up_from, up_from-length}
use Rattle.lists.proofs.Tests.{eqb_same, map-in}

-- f numbers the n elements that have the property, and g finds the element of a number
module _ {X : Type 0} (P : X → Type 0) (n : ℕ) (counted : Counts P n) (f : X → ℕ) (g : ℕ → X)
    (less : (x : X) → P x → f x < n) (back : (x : X) → P x → g (f x) ≡ x) where
  abbrev numbers : List ℕ
  numbers = map f counted.list

  has : (x : X) → x ∈ counted.list → P x
  has x i = (counted.exactly.members x).0 i

  numbers-distinct : Distinct numbers
  numbers-distinct =
      map-distinct f counted.list (λ x y i j e. sym (back x (has x i)) ∙ ap g e ∙ back y (has y j))
      counted.exactly.once

  -- every number below n has its element
  pub number-onto : (k : ℕ) → k < n → P (g k) × (f (g k) ≡ k)
  number-onto k h = go (elem eqb k numbers) refl
    where
      found : (x : X) × (x ∈ counted.list) × (k ≡ f x) → P (g k) × (f (g k) ≡ k)
      found (x, i, e) =
          let d : g k ≡ x = ap g e ∙ back x (has x i) in (subst P (sym d) (has x i), ap f d ∙ sym e)

      within : (j : ℕ) → j ∈ (k ∷ numbers) → j ∈ up_from 0 n
      within j (inl e) = in-up_from 0 n j (omega arith) (omega arith)
      within j (inr i) =
          let (x, l, e) = map-in f counted.list j i in
          in-up_from 0 n j (omega arith) (omega (arith, less x (has x l)))

      go : (b : Bool) → elem eqb k numbers ≡ b → P (g k) × (f (g k) ≡ k)
      go true e = found (map-in f counted.list k (elem_in eqb eqb-true eqb_same k numbers e))
      go false e =
          absurd (omega (
            arith,
            distinct-length (k ∷ numbers) (up_from 0 n)
                (λ i. true≢false (sym (in-elem eqb eqb-true eqb_same k numbers i) ∙ e), numbers-distinct) within,
            up_from-length 0 n,
            length-map counted.list f,
            counted.every-length counted.list counted.exactly,
          ))

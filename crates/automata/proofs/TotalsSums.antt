-- Sums over transitions of products over arguments: which numbers they read, and what they are up to a limit.
use mathlib.Core.Bool.{Bool, cond, false, true}
use mathlib.Core.List.{List, [], ◌∷◌}
use mathlib.Core.Logic.{inl, inr}
use mathlib.Core.Path.{◌∙◌, ◌≡◌, refl, sym}
use Prim.Native.Nat.{min, ℕ}
use native.Mathlib.Omega.{arith}
use lib.Dec.{eqb}
use borrow.Author.Tests.{eqb-true}
use Rattle.automata.specs.Automaton.{Transition}
use Rattle.automata.specs.Totals.{product_over, sum_into}
use Rattle.lists.specs.Tests.{◌∈◌}
use Rattle.lists.proofs.Limits.{min-add, min-if, min-product}

module _ (v w : ℕ → ℕ) where
  pub product-same : (qs : List ℕ) → ((q : ℕ) → q ∈ qs → v q ≡ w q) → product_over v qs ≡ product_over w qs
  product-same [] h = refl
  product-same (q ∷ qs) h = cc (h q (inl refl), product-same qs (λ p i. h p (inr i)))

  -- a sum reads the numbers of the arguments of transitions into its state
  pub sum_same : (q : ℕ) (τs : List Transition) →
      ((τ : Transition) → τ ∈ τs → τ.out ≡ q → (p : ℕ) → p ∈ τ.args → v p ≡ w p) → sum_into v q τs ≡ sum_into w q τs
  sum_same q [] h = refl
  sum_same q (τ ∷ τs) h = cc (go (eqb τ.out q) refl, sum_same q τs (λ σ i. h σ (inr i)))
    where
      go : (b : Bool) → eqb τ.out q ≡ b → cond b (product_over v τ.args) 0 ≡ cond b (product_over w τ.args) 0
      go true e = product-same τ.args (h τ (inl refl) (eqb-true τ.out q e))
      go false e = refl

-- ---- up to a limit

module _ (c : ℕ) (w : ℕ → ℕ) where
  -- the numbers up to the limit
  abbrev pub limited : ℕ → ℕ
  limited q = min c (w q)

  pub product-limited : (qs : List ℕ) → min c (product_over limited qs) ≡ min c (product_over w qs)
  product-limited [] = refl
  product-limited (q ∷ qs) =
      let m : min c (min c (w q)) ≡ min c (w q) = omega arith in
      min-product c (min c (w q)) (product_over limited qs) ∙ cc (product-limited qs)
      ∙ sym (min-product c (w q) (product_over w qs))

  pub sum-limited : (q : ℕ) (τs : List Transition) → min c (sum_into limited q τs) ≡ min c (sum_into w q τs)
  sum-limited q [] = refl
  sum-limited q (τ ∷ τs) =
      min-add c (cond (eqb τ.out q) (product_over limited τ.args) 0)
      (cond (eqb τ.out q) (product_over w τ.args) 0) (sum_into limited q τs) (sum_into w q τs)
      (min-if c (eqb τ.out q) (product_over limited τ.args) (product_over w τ.args) (product-limited τ.args))
      (sum-limited q τs)

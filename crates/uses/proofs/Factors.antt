-- The product of the numbers of pairs over all arguments but one.
use mathlib.Core.List.{List}
use mathlib.Core.Path.{◌∙◌, ◌≡◌, ap}
use Prim.Native.Nat.{ℕ}
use lib.ListN.{get_or}
use borrow.Author.Tests.{eq-eqb, ne_eqb}
use Rattle.table.specs.Layout.{arg_of}
use Rattle.uses.specs.Uses.{factor_at}

module _ (w s : List ℕ) (at k x : ℕ) where
  pub factor-out : x ≡ k → 1 ≡ factor_at w s at k x
  unfolding factor_at
  factor-out e = rw (eq-eqb x k e)

  pub factor-there : (x ≡ k → ⊥) → {q r : ℕ} → q ≡ arg_of s at x → r ≡ get_or w q 0 → r ≡ factor_at w s at k x
  unfolding factor_at
  factor-there n e f = f ∙ ap (λ (y : ℕ). get_or w y 0) e ∙ rw (ne_eqb x k n)

-- Numbers of trees up to a limit: if no state comes back, numbers that follow the law at every state are right.
use mathlib.Core.Bool.{cond, true}
use mathlib.Core.List.{List, [], ◌∷◌}
use mathlib.Core.Logic.{inl, inr}
use mathlib.Core.Path.{◌∙◌, ◌≡◌, ap, refl, sym}
use Prim.Native.Nat.{◌≤◌, min, ℕ}
use native.Mathlib.Omega.{arith}
use lib.Dec.{eqb}
use borrow.Author.Tests.{eq-eqb, eqb-true}
use Rattle.automata.specs.Acyclic.{acyclic}
use Rattle.automata.specs.Automaton.{Automaton, IsState, Transition, accepting, states}
use Rattle.automata.specs.Order.{rising}
use Rattle.automata.specs.Totals.{sum_accepting, sum_into, total, trees_of}
use Rattle.automata.specs.Valid.{states_in_range}
use Rattle.lists.specs.Positions.{up_from}
use Rattle.lists.specs.Tests.{◌∈◌}
use Rattle.automata.proofs.Grounded.{Grounded, acyclic-grounded}
use Rattle.automata.proofs.Totals.{acyclic-sum}
use Rattle.automata.proofs.TotalsSums.{limited, sum-limited, sum_same}
use Rattle.automata.proofs.Valid.{states-in}
use Rattle.lists.proofs.Limits.{min-add, min-if}
use Rattle.lists.proofs.Tests.{every_in}

module _ (A : Automaton) (ranged : states_in_range A ≡ true) (rises : rising A.transitions ≡ true)
    (ac : acyclic A ≡ true) (c : ℕ) (w : ℕ → ℕ)
    (law : (q : ℕ) → IsState A q → w q ≡ min c (sum_into w q A.transitions)) where
  -- right at the arguments, so right at the output
  follows : (q : ℕ) → 1 ≤ q → q ≤ states A → Grounded A (λ p. eqb (w p) (min c (trees_of A p))) q →
      eqb (w q) (min c (trees_of A q)) ≡ true
  follows q h l g =
      eq-eqb (w q) (min c (trees_of A q))
      (law q (h, l)
      ∙ ap (min c) (sum_same w (limited c (trees_of A)) q A.transitions right)
      ∙ sum-limited c (trees_of A) q A.transitions
      ∙ ap (min c) (sym (acyclic-sum A ranged rises ac q (h, l))))
    where
      right : (τ : Transition) → τ ∈ A.transitions → τ.out ≡ q → (p : ℕ) → p ∈ τ.args →
          w p ≡ min c (trees_of A p)
      right τ i o p j =
          eqb-true (w p) (min c (trees_of A p))
          (every_in (λ p. eqb (w p) (min c (trees_of A p))) τ.args (g τ i o) p j)

  pub capped-lawful : (q : ℕ) → IsState A q → w q ≡ min c (trees_of A q)
  capped-lawful q (h, l) =
      eqb-true (w q) (min c (trees_of A q))
      (acyclic-grounded A ranged (λ p. eqb (w p) (min c (trees_of A p))) follows ac q h l)

  capped-over : (qs : List ℕ) → ((q : ℕ) → q ∈ qs → IsState A q) →
      min c (sum_accepting A w qs) ≡ min c (sum_accepting A (trees_of A) qs)
  capped-over [] s = refl
  capped-over (q ∷ qs) s =
      min-add c (cond (accepting A q) (w q) 0) (cond (accepting A q) (trees_of A q) 0) (sum_accepting A w qs)
      (sum_accepting A (trees_of A) qs) (min-if c (accepting A q) (w q) (trees_of A q) here)
      (capped-over qs (λ p i. s p (inr i)))
    where
      here : min c (w q) ≡ min c (trees_of A q)
      here = omega (arith, capped-lawful q (s q (inl refl)))

  -- the total up to the limit, from such numbers
  pub capped-total : min c (sum_accepting A w (up_from 1 (states A))) ≡ min c (total A)
  unfolding total
  capped-total = capped-over (up_from 1 (states A)) (states-in A)

-- If every state has a tree and is used, no number that serial numbers are made of is above the total.
use mathlib.Core.Bool.{Bool, ◌&&◌, true}
use mathlib.Core.List.{List, [], ◌∷◌}
use mathlib.Core.Logic.{◌⊎◌, inl, inr}
use mathlib.Core.Path.{◌∙◌, ◌≡◌, ap, refl, sym}
use Prim.Native.Nat.{◌*◌, ◌≤◌, ℕ}
use native.Mathlib.Nat.{le-mul_of_pos_right, mul_comm, one-le-mul}
use native.Mathlib.Omega.{arith}
use lib.Dec.{eqb}
use borrow.Author.Tests.{eq-eqb, eqb-true}
use Rattle.automata.specs.Accessible.{all_accessible}
use Rattle.automata.specs.Acyclic.{acyclic}
use Rattle.automata.specs.Automaton.{Automaton, IsState, Transition, accepting, states}
use Rattle.automata.specs.Coaccessible.{all_coaccessible, coaccessible, coaccessible_rule}
use Rattle.automata.specs.Order.{rising}
use Rattle.automata.specs.Totals.{FinitelyMany, product_over, sum_accepting, sum_into, total, trees_of}
use Rattle.automata.specs.Valid.{states_in_range}
use Rattle.lists.specs.Closure.{elem}
use Rattle.lists.specs.Positions.{up_from}
use Rattle.lists.specs.Tests.{◌∈◌, any}
use Rattle.automata.proofs.Totals.{trees-some, trees-sum}
use Rattle.automata.proofs.TotalsFinite.{acyclic-many}
use Rattle.automata.proofs.Valid.{in-states, ranged-transition, state-tree}
use Rattle.lists.proofs.Closure.{closure-all, elem_in}
use Rattle.lists.proofs.Tests.{and_left, and_right, any-in, eqb_same, every_in, or_cases}

module _ (w : ℕ → ℕ) where
  pub product-some : (qs : List ℕ) → ((q : ℕ) → q ∈ qs → 1 ≤ w q) → 1 ≤ product_over w qs
  product-some [] h = omega arith
  product-some (q ∷ qs) h = one-le-mul (h q (inl refl)) (product-some qs (λ p i. h p (inr i)))

  -- a factor is no more than the product
  pub factor-within : (qs : List ℕ) → ((q : ℕ) → q ∈ qs → 1 ≤ w q) → (q : ℕ) → q ∈ qs → w q ≤ product_over w qs
  factor-within [] h q x'' = elim x'' [ ]
  factor-within (p ∷ qs) h q (inl e) =
      let l : w p ≤ w p * product_over w qs =
      le-mul_of_pos_right (w p) (product-some qs (λ r i. h r (inr i))) in
      omega (arith, ap w e)
  factor-within (p ∷ qs) h q (inr i) =
      let l : product_over w qs ≤ product_over w qs * w p = le-mul_of_pos_right (product_over w qs) (h p (inl refl)) in
      omega (arith, factor-within qs (λ r j. h r (inr j)) q i, mul_comm (w p) (product_over w qs))

  -- a part is no more than the sum
  pub part-within : (q : ℕ) (τs : List Transition) (τ : Transition) → τ ∈ τs → τ.out ≡ q →
      product_over w τ.args ≤ sum_into w q τs
  part-within q [] τ x'' o = elim x'' [ ]
  part-within q (σ ∷ τs) τ (inl e) o =
      rw (eq-eqb σ.out q (ap (λ (υ : Transition). υ.out) (sym e) ∙ o))
      (omega (arith, ap (λ (υ : Transition). product_over w υ.args) e))
  part-within q (σ ∷ τs) τ (inr i) o = omega (arith, part-within q τs τ i o)

  pub accepting-within : (A : Automaton) (qs : List ℕ) (q : ℕ) → q ∈ qs → accepting A q ≡ true →
      w q ≤ sum_accepting A w qs
  accepting-within A [] q x'' a = elim x'' [ ]
  accepting-within A (p ∷ qs) q (inl e) a = rw (ap (accepting A) (sym e) ∙ a) (omega (arith, ap w e))
  accepting-within A (p ∷ qs) q (inr i) a = omega (arith, accepting-within A qs q i a)

module _ (A : Automaton) (ranged : states_in_range A ≡ true) (rises : rising A.transitions ≡ true)
    (many : (q : ℕ) → IsState A q → FinitelyMany A q) where
  -- the trees at a transition are among those of its output
  pub transition-within : (τ : Transition) → τ ∈ A.transitions →
      product_over (trees_of A) τ.args ≤ trees_of A τ.out
  transition-within τ i =
      let s = (ranged-transition A ranged τ i).out in
      omega (
        arith,
        part-within (trees_of A) τ.out A.transitions τ i refl,
        trees-sum A ranged rises τ.out s (many τ.out s),
      )

  module _ (reached : all_accessible A ≡ true) where
    pub state-some : (q : ℕ) → IsState A q → 1 ≤ trees_of A q
    state-some q s = let (t, e) = state-tree A ranged rises reached q s in
        trees-some A ranged rises q s (many q s) t e

    pub args-some : (τ : Transition) → τ ∈ A.transitions → (q : ℕ) → q ∈ τ.args → 1 ≤ trees_of A q
    args-some τ i q j = state-some q ((ranged-transition A ranged τ i).args q j)

    module _ (used : all_coaccessible A ≡ true) where
      -- 02, order 4: along the transitions from a state to an accepting one the numbers do not fall
      pub state-below : (q : ℕ) → IsState A q → trees_of A q ≤ total A
      unfolding total
      state-below q s =
          closure-all eqb eqb-true eqb_same (coaccessible_rule A) (up_from 1 (states A)) (λ p. trees_of A p ≤ total A)
          made q
          (every_in (coaccessible A) (up_from 1 (states A)) used q (in-states A q s))
        where
          made : (m : ℕ → Bool) → ((p : ℕ) → m p ≡ true → trees_of A p ≤ total A) → (p : ℕ) → p ∈ up_from 1 (states A) →
              coaccessible_rule A m p ≡ true → trees_of A p ≤ total A
          made m ih p i e = go (or_cases (accepting A p) _ e)
            where
              up : (τ : Transition) × (τ ∈ A.transitions) × ((m τ.out && elem eqb p τ.args) ≡ true) →
                  trees_of A p ≤ total A
              up (τ, j, h) =
                  omega (
                    arith,
                    ih τ.out (and_left _ _ h),
                    transition-within τ j,
                    factor-within (trees_of A) τ.args (args-some τ j) p
                        (elem_in eqb eqb-true eqb_same p τ.args (and_right (m τ.out) _ h)),
                  )

              go : (accepting A p ≡ true) ⊎ (any (λ τ. m τ.out && elem eqb p τ.args) A.transitions ≡ true) →
                  trees_of A p ≤ total A
              go (inl a) = accepting-within (trees_of A) A (up_from 1 (states A)) p i a
              go (inr a) = up (any-in (λ τ. m τ.out && elem eqb p τ.args) A.transitions a)

      pub transition-below : (τ : Transition) → τ ∈ A.transitions → product_over (trees_of A) τ.args ≤ total A
      transition-below τ i =
          omega (arith, transition-within τ i, state-below τ.out (ranged-transition A ranged τ i).out)

-- automata in which no state comes back
module _ (A : Automaton) (ranged : states_in_range A ≡ true) (rises : rising A.transitions ≡ true)
    (ac : acyclic A ≡ true) where
  all-finite : (q : ℕ) → IsState A q → FinitelyMany A q
  all-finite q s = acyclic-many A ranged ac q s.0

  -- 02, order 4: nothing overflows if the total does not
  module _ (reached : all_accessible A ≡ true) (used : all_coaccessible A ≡ true) where
    pub acyclic-state-below : (q : ℕ) → IsState A q → trees_of A q ≤ total A
    acyclic-state-below = state-below A ranged rises all-finite reached used

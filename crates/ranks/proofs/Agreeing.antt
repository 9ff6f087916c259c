-- Numbers that are the same for every state of an automaton: they give the same numbers of trees and the same choices.
use mathlib.Core.Bool.{cond, true}
use mathlib.Core.List.{List, [], ◌∷◌}
use mathlib.Core.Logic.{inl, inr}
use mathlib.Core.Path.{◌∙◌, ◌≡◌, ap, ap₂, refl}
use Prim.Native.Nat.{◌%◌, ◌*◌, ◌+◌, ◌-◌, ◌/◌, ℕ}
use lib.Dec.{eqb, ltb}
use Rattle.automata.specs.Automaton.{Automaton, IsState, Transition, accepting, matches, run, runs}
use Rattle.automata.specs.Ranks.{Chosen, children_of, rank_in, ranks_in, state_of, sum_before, transition_of}
use Rattle.automata.specs.Totals.{product_over, sum_accepting, sum_into}
use Rattle.automata.specs.Valid.{states_in_range}
use Rattle.automata.proofs.RankFinite.{FiniteTree, finite-children}
use Rattle.automata.proofs.TotalsSums.{product-same, sum_same}
use Rattle.automata.proofs.Valid.{ranged-transition}
use Rattle.lists.specs.Tests.{◌∈◌}
use Rattle.trees.specs.Tree.{AllTrees, Forest, Tree, cons, nil, node}

-- ---- choices among states

module _ (A B : Automaton) (v w : ℕ → ℕ) where
  -- both see the same trees of a state
  abbrev SameTrees : List ℕ → Type 0
  SameTrees qs = (q : ℕ) → q ∈ qs → cond (accepting A q) (v q) 0 ≡ cond (accepting B q) (w q) 0

  pub state-same : (qs : List ℕ) (k : ℕ) → SameTrees qs → state_of A v k qs ≡ state_of B w k qs
  state-same [] k h = refl
  state-same (q ∷ qs) k h =
      ap (λ (n : ℕ). cond (ltb k n) (record { what = q; left = k }) (state_of A v (k - n) qs)) (h q (inl refl))
      ∙ ap (λ (c : Chosen ℕ). cond (ltb k (cond (accepting B q) (w q) 0)) (record { what = q; left = k }) c)
      (state-same qs (k - cond (accepting B q) (w q) 0) (λ p i. h p (inr i)))

  pub accepting-same : (qs : List ℕ) → SameTrees qs → sum_accepting A v qs ≡ sum_accepting B w qs
  accepting-same [] h = refl
  accepting-same (q ∷ qs) h = ap₂ ◌+◌ (h q (inl refl)) (accepting-same qs (λ p i. h p (inr i)))

-- ---- choices among transitions, and numbers of trees

module _ (A : Automaton) (ranged : states_in_range A ≡ true) (v w : ℕ → ℕ)
    (agree : (q : ℕ) → IsState A q → v q ≡ w q) where
  args-same : (τ : Transition) → τ ∈ A.transitions → product_over v τ.args ≡ product_over w τ.args
  args-same τ i = product-same v w τ.args (λ q j. agree q ((ranged-transition A ranged τ i).args q j))

  -- some of the transitions
  abbrev Some : List Transition → Type 0
  Some τs = (τ : Transition) → τ ∈ τs → τ ∈ A.transitions

  into-same : (τ : Transition) → τ ∈ A.transitions → (q : ℕ) →
      cond (eqb τ.out q) (product_over v τ.args) 0 ≡ cond (eqb τ.out q) (product_over w τ.args) 0
  into-same τ i q = ap (λ (n : ℕ). cond (eqb τ.out q) n 0) (args-same τ i)

  transition-same-in : (τs : List Transition) → Some τs → (q k : ℕ) → transition_of v q k τs ≡ transition_of w q k τs
  transition-same-in [] h q k = refl
  transition-same-in (τ ∷ τs) h q k =
      ap (λ (n : ℕ). cond (ltb k n) (record { what = τ; left = k }) (transition_of v q (k - n) τs))
      (into-same τ (h τ (inl refl)) q)
      ∙ ap (λ (c : Chosen Transition). cond (ltb k (cond (eqb τ.out q) (product_over w τ.args) 0))
      (record { what = τ; left = k }) c)
      (transition-same-in τs (λ σ i. h σ (inr i)) q (k - cond (eqb τ.out q) (product_over w τ.args) 0))

  pub transition-same : (q k : ℕ) → transition_of v q k A.transitions ≡ transition_of w q k A.transitions
  transition-same = transition-same-in A.transitions (λ τ i. i)

  pub into-all-same : (q : ℕ) → sum_into v q A.transitions ≡ sum_into w q A.transitions
  into-all-same q =
      sum_same v w q A.transitions (λ τ i o p j. agree p ((ranged-transition A ranged τ i).args p j))

  children-same-in : (T : ℕ → ℕ → Tree) (qs : List ℕ) → ((q : ℕ) → q ∈ qs → IsState A q) → (k : ℕ) →
      children_of T v qs k ≡ children_of T w qs k
  children-same-in T [] h k = refl
  children-same-in T (q ∷ qs) h k =
      let e : product_over v qs ≡ product_over w qs = product-same v w qs (λ p i. agree p (h p (inr i))) in
      ap (λ (n : ℕ). cons (T q (k / n)) (children_of T v qs (k % n))) e
      ∙ ap (cons (T q (k / product_over w qs))) (children-same-in T qs (λ p i. h p (inr i)) (k % product_over w qs))

  pub children-same : (T : ℕ → ℕ → Tree) (τ : Transition) → τ ∈ A.transitions → (k : ℕ) →
      children_of T v τ.args k ≡ children_of T w τ.args k
  children-same T τ i k = children-same-in T τ.args (λ q j. (ranged-transition A ranged τ i).args q j) k

  before-same-in : (τs : List Transition) → Some τs → (q a : ℕ) (qs : List ℕ) →
      sum_before v q a qs τs ≡ sum_before w q a qs τs
  before-same-in [] h q a qs = refl
  before-same-in (τ ∷ τs) h q a qs =
      ap (λ (n : ℕ). cond (matches a qs τ) 0 n)
      (ap₂ ◌+◌ (into-same τ (h τ (inl refl)) q) (before-same-in τs (λ σ i. h σ (inr i)) q a qs))

  before_same : (q a : ℕ) (qs : List ℕ) → sum_before v q a qs A.transitions ≡ sum_before w q a qs A.transitions
  before_same = before-same-in A.transitions (λ τ i. i)

  runs_same : (f : Forest) → AllTrees (FiniteTree A) f → product_over v (runs A f) ≡ product_over w (runs A f)
  runs_same nil F = refl
  runs_same (cons t f) F = ap₂ ◌*◌ (agree (run A t) F.0.state) (runs_same f F.1)

  mutual
    pub rank_same : (t : Tree) → FiniteTree A t → rank_in A v t ≡ rank_in A w t
    rank_same (node a f) F =
        ap₂ ◌+◌ (before_same (run A (node a f)) a (runs A f)) (ranks-same f (finite-children A ranged a f F))

    ranks-same : (f : Forest) → AllTrees (FiniteTree A) f → ranks_in A v f ≡ ranks_in A w f
    ranks-same nil F = refl
    ranks-same (cons t f) F =
        ap₂ ◌+◌ (ap₂ ◌*◌ (rank_same t F.0) (runs_same f F.1)) (ranks-same f F.1)

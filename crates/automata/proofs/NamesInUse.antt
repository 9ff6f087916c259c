-- The names in use are those of representatives, each once; the transitions between names stand over them.
use mathlib.Core.Bool.{false, true}
use mathlib.Core.List.{List, map}
use mathlib.Core.Logic.{◌⊎◌, ◌≢◌, inl, inr}
use mathlib.Core.Path.{◌∙◌, ◌≡◌, ap, refl, subst, subst₂, sym}
use Prim.Native.Nat.{◌≤◌, ℕ}
use native.Mathlib.Omega.{arith}
use lib.ListN.{length}
use borrow.Author.Tests.{eq-eqb, eqb-true}
use Rattle.automata.specs.Automaton.{Automaton, Fits, Transition, run, runs, states, step}
use Rattle.automata.specs.Canonical.{each_tree}
use Rattle.automata.specs.Change.{subtrees}
use Rattle.automata.specs.NamedChange.{names_in_use}
use Rattle.automata.specs.Names.{is_subtree}
use Rattle.automata.specs.OpenStates.{open_state}
use Rattle.automata.specs.Order.{rising}
use Rattle.automata.specs.Quotient.{has_own, own_name, quotient_list}
use Rattle.automata.specs.SubtreeNames.{Names, name_of}
use Rattle.automata.specs.Valid.{states_in_range}
use Rattle.lists.specs.Positions.{up_from}
use Rattle.lists.specs.Tests.{Distinct, Exactly, ◌∈◌, filter}
use Rattle.trees.specs.Tree.{Forest, Tree, cons, count, nil, node}
use Rattle.automata.proofs.Distinguishable.{run_fits}
use Rattle.automata.proofs.Legal.{each-count, runs-count}
use Rattle.automata.proofs.Names.{other-in, subtree-in}
use Rattle.automata.proofs.Quotient.{Top, list-in}
use Rattle.automata.proofs.QuotientNames.{rep-of}
use Rattle.automata.proofs.Representatives.{Rep, Reps, other_name, own-above, own-inj, subtree-name}
use Rattle.automata.proofs.StatePairs.{open-tree, tree-open}
use Rattle.automata.proofs.Steps.{Taken, step-view}
use Rattle.automata.proofs.Valid.{ranged-fits}
use Rattle.lists.proofs.Distinct.{append-distinct, filter-distinct, map-distinct, up_from-distinct}
use Rattle.lists.proofs.Positions.{in-up_from, up_from-in}
use Rattle.lists.proofs.Tests.{append-in, filter-in, in_append_left, in_append_right, in-filter, in_map, map-in, test}

module _ (A : Automaton) (t : Tree) (ts : List Tree) (ν : Tree → ℕ) where
  abbrev N : Tree → ℕ
  N = name_of A t ν

  -- the open states, and the subtrees that have their own names
  abbrev opened : List ℕ
  opened = filter (open_state A t) (up_from 1 (states A))

  abbrev own : List Tree
  own = filter (has_own A ts ν) ts

  module _ (fit : Fits A) (listed : Exactly (λ u. u ∈ subtrees t) ts) where
    -- ---- representatives

    pub rep-used : (u : Tree) → Rep A t ts ν u → name_of A t ν u ∈ names_in_use A t ts ν
    unfolding names_in_use Rep
    rep-used u (inl (i, e)) =
        in_append_right opened (map (own_name A ts) own) (N u)
        (subst (λ (x : ℕ). x ∈ map (own_name A ts) own) (sym (subtree-name A t ts ν u i ∙ e))
        (in_map (own_name A ts) own u
        (in-filter (has_own A ts ν) ts u ((listed.members u).1 i) (eq-eqb (ν u) (own_name A ts u) e))))
    rep-used u (inr (miss, s)) =
        in_append_left opened (map (own_name A ts) own) (N u)
        (subst (λ (x : ℕ). x ∈ opened) (sym (other_name A t ts ν u miss))
        (in-filter (open_state A t) (up_from 1 (states A)) (run A u)
        (in-up_from 1 (states A) (run A u) s (omega (arith, run_fits A fit u)))
        (tree-open A fit t (run A u) s u refl miss)))

    own-member : (u : Tree) → u ∈ own → (u ∈ subtrees t) × (ν u ≡ own_name A ts u)
    own-member u i =
        let (j, e) = filter-in (has_own A ts ν) ts u i in
        ((listed.members u).0 j, eqb-true (ν u) (own_name A ts u) e)

    pub used-rep : (x : ℕ) → x ∈ names_in_use A t ts ν → (u : Tree) × Rep A t ts ν u × (name_of A t ν u ≡ x)
    unfolding names_in_use Rep
    used-rep x i = go (append-in opened (map (own_name A ts) own) x i)
      where
        go : (x ∈ opened) ⊎ (x ∈ map (own_name A ts) own) → (u : Tree) × Rep A t ts ν u × (name_of A t ν u ≡ x)
        go (inl j) =
            let (k, o) = filter-in (open_state A t) (up_from 1 (states A)) x j in
            let (u, r, miss) = open-tree A fit t x o in
            (u, inr (miss, omega (arith, r, up_from-in 1 (states A) x k)), other_name A t ts ν u miss ∙ r)
        go (inr j) =
            let (u, k, e) = map-in (own_name A ts) own x j in
            let (l, o) = own-member u k in
            (u, inl (l, o), subtree-name A t ts ν u l ∙ o ∙ sym e)

    pub used-distinct : Distinct (names_in_use A t ts ν)
    unfolding names_in_use
    used-distinct =
        append-distinct opened (map (own_name A ts) own)
        (filter-distinct (open_state A t) (up_from 1 (states A)) (up_from-distinct 1 (states A)))
        (map-distinct (own_name A ts) own (λ u v i j. own-inj A t ts ν fit listed u v (own-member u i).0)
        (filter-distinct (has_own A ts ν) ts listed.once))
        apart
      where
        apart : (x : ℕ) → x ∈ opened → x ∈ map (own_name A ts) own → ⊥
        apart x i j =
            let (k, _) = filter-in (open_state A t) (up_from 1 (states A)) x i in
            let (u, l, e) = map-in (own_name A ts) own x j in
            omega (arith, own-above A t ts ν fit listed u (own-member u l).0, up_from-in 1 (states A) x k, e)

    reps-used : (g : Forest) → Reps A t ts ν g → (x : ℕ) → x ∈ each_tree N g → x ∈ names_in_use A t ts ν
    reps-used nil p x i = absurd i
    reps-used (cons u g) p x (inl e) = subst (λ (y : ℕ). y ∈ names_in_use A t ts ν) (sym e) (rep-used u p.0)
    reps-used (cons u g) p x (inr i) = reps-used g p.1 x i

    rep-positive : (u : Tree) → Rep A t ts ν u → 1 ≤ name_of A t ν u
    unfolding Rep
    rep-positive u (inl (i, e)) =
        omega (arith, own-above A t ts ν fit listed u i, subtree-name A t ts ν u i, e)
    rep-positive u (inr (miss, s)) = omega (arith, other_name A t ts ν u miss)

    -- a name in use is not 0
    pub used-positive : (x : ℕ) → x ∈ names_in_use A t ts ν → 1 ≤ x
    used-positive x i = let (u, p, e) = used-rep x i in omega (arith, rep-positive u p, e)

  -- ---- the transitions between names

  module _ (ranged : states_in_range A ≡ true) (rises : rising A.transitions ≡ true)
      (listed : Exactly (λ u. u ∈ subtrees t) ts) where
    pub used-args : (σ : Transition) → σ ∈ quotient_list A t ts ν → (x : ℕ) → x ∈ σ.args → x ∈ names_in_use A t ts ν
    unfolding Top
    used-args σ i x j =
        let (a, g, p, _, e) = list-in A t ts ν ranged rises listed σ i in
        reps-used (ranged-fits A ranged) listed g p x
        (subst (λ (τ : Transition). x ∈ τ.args) e j)

    pub used-out : Names A t ts ν → (σ : Transition) → σ ∈ quotient_list A t ts ν → σ.out ∈ names_in_use A t ts ν
    unfolding Top
    used-out H σ i =
        let (a, g, p, h, e) = list-in A t ts ν ranged rises listed σ i in
        let (v, r, d) = rep-of A t ts ν ranged rises listed H (node a g) h in
        subst (λ (x : ℕ). x ∈ names_in_use A t ts ν) (d ∙ sym (ap (λ (τ : Transition). τ.out) e))
        (rep-used (ranged-fits A ranged) listed v r)

    -- what holds of the label and arity of every transition of A and of every node of t holds of them
    pub list-shape : (P : ℕ → ℕ → Type 0) →
        ((τ : Transition) → τ ∈ A.transitions → P τ.label (length τ.args)) →
        ((a : ℕ) (f : Forest) → node a f ∈ subtrees t → P a (count f)) →
        (σ : Transition) → σ ∈ quotient_list A t ts ν → P σ.label (length σ.args)
    unfolding Top
    list-shape P old new σ i =
        let (a, g, p, h, e) = list-in A t ts ν ranged rises listed σ i in
        subst (λ (τ : Transition). P τ.label (length τ.args)) (sym e)
        (subst (P a) (sym (each-count N g)) (top a g h (test (is_subtree t (node a g)))))
      where
        taken : (a : ℕ) (g : Forest) → (step A a (runs A g) ≡ 0) ⊎ Taken A a (runs A g) → run A (node a g) ≢ 0 →
            P a (count g)
        taken a g (inl z) h = absurd (h z)
        taken a g (inr (n, (τ, j, l, r, o))) h = subst₂ P l (ap length r ∙ runs-count A g) (old τ j)

        top : (a : ℕ) (g : Forest) → N (node a g) ≢ 0 →
            (is_subtree t (node a g) ≡ true) ⊎ (is_subtree t (node a g) ≡ false) → P a (count g)
        top a g h (inl s) = new a g (subtree-in t (node a g) s)
        top a g h (inr s) =
            taken a g (step-view A a (runs A g))
            (λ z. h (other_name A t ts ν (node a g) (other-in t (node a g) s) ∙ z))

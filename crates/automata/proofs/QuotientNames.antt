-- The listed transitions are those between names: a name that is not 0 has a representative, and the children of a node
-- may be exchanged for representatives of their names.
use mathlib.Core.Bool.{Bool, false, true}
use mathlib.Core.List.{List}
use mathlib.Core.Logic.{◌⊎◌, ◌≢◌, inl, inr}
use mathlib.Core.Path.{◌∙◌, ◌≡◌, refl, subst, sym}
use Prim.Native.Nat.{ℕ}
use native.Mathlib.Omega.{arith}
use Rattle.automata.specs.Automaton.{Automaton, Transition, run}
use Rattle.automata.specs.Canonical.{each_tree, transition_of}
use Rattle.automata.specs.Change.{subtrees}
use Rattle.automata.specs.Names.{BetweenNames, Naming, QuotientOf, is_subtree}
use Rattle.automata.specs.OpenStates.{open_state}
use Rattle.automata.specs.Order.{rising}
use Rattle.automata.specs.Quotient.{quotient_list}
use Rattle.automata.specs.SubtreeNames.{IsOwnName, Names, name_of}
use Rattle.automata.specs.Valid.{states_in_range}
use Rattle.lists.specs.Tests.{Exactly, ◌∈◌}
use Rattle.trees.specs.Tree.{AllTrees, Forest, Tree, ◌⧺◌, cons, nil, node}
use Rattle.automata.proofs.Names.{other-in, subtree-in}
use Rattle.automata.proofs.Quotient.{Top, in_list, list-in, positive}
use Rattle.automata.proofs.Representatives.{Rep, other_name, subtree-name}
use Rattle.automata.proofs.StatePairs.{open-tree}
use Rattle.automata.proofs.Valid.{ranged-fits}
use Rattle.lists.proofs.Tests.{test}
use Rattle.trees.proofs.Trees.{snoc-append}

-- ---- names of nodes

module _ (A : Automaton) (t : Tree) (S : Tree → Bool) (N : Tree → ℕ) (M : Naming A t S N) (a : ℕ) where
  -- a node that has a name has children that have names
  named-after : (b f : Forest) → N (node a (b ⧺ f)) ≢ 0 → AllTrees (λ u. N u ≢ 0) f
  named-after b nil h = tt
  named-after b (cons u f) h = (
    λ z. h (M.none_filled u z (record { label = a; before = b; after = f })),
    named-after (b ⧺ cons u nil) f (rw (snoc-append b u f) h),
  )

  pub named-children : (f : Forest) → N (node a f) ≢ 0 → AllTrees (λ u. N u ≢ 0) f
  named-children f h = named-after nil f h

  -- the names of the children decide that of the node
  same_after : (b f g : Forest) → each_tree N f ≡ each_tree N g → N (node a (b ⧺ f)) ≡ N (node a (b ⧺ g))
  same_after b nil nil e = refl
  same_after b nil (cons v g) e = let z : ◌≡◌ {A = ℕ} 0 1 = cc in absurd (omega arith)
  same_after b (cons u f) nil e = let z : ◌≡◌ {A = ℕ} 0 1 = cc in absurd (omega arith)
  same_after b (cons u f) (cons v g) e =
      let d : N u ≡ N v = cc in
      let ds : each_tree N f ≡ each_tree N g = cc in
      M.filled u v d (record { label = a; before = b; after = f })
      ∙ rw (snoc-append b v f, snoc-append b v g) at (same_after (b ⧺ cons v nil) f g ds)

  pub same-children : (f g : Forest) → each_tree N f ≡ each_tree N g → N (node a f) ≡ N (node a g)
  same-children f g e = same_after nil f g e

module _ (A : Automaton) (t : Tree) (ts : List Tree) (ν : Tree → ℕ) (ranged : states_in_range A ≡ true)
    (rises : rising A.transitions ≡ true) (listed : Exactly (λ u. u ∈ subtrees t) ts) (H : Names A t ts ν) where
  abbrev N : Tree → ℕ
  N = name_of A t ν

  abbrev R : Tree → Type 0
  R u = Rep A t ts ν u

  -- ---- representatives of names

  pub rep-of : (u : Tree) → name_of A t ν u ≢ 0 → (v : Tree) × Rep A t ts ν v × (name_of A t ν v ≡ name_of A t ν u)
  unfolding Rep
  rep-of u h = go (test (is_subtree t u))
    where
      named : u ∈ subtrees t → (ν u ≡ 0) ⊎ ((open_state A t (ν u) ≡ true) ⊎ IsOwnName A t ts ν (ν u)) →
          (v : Tree) × R v × (N v ≡ N u)
      named i (inl z) = absurd (h (subtree-name A t ts ν u i ∙ z))
      named i (inr (inl o)) =
          let (v, r, miss) = open-tree A (ranged-fits A ranged) t (ν u) o in
          let e : N v ≡ N u = other_name A t ts ν v miss ∙ r ∙ sym (subtree-name A t ts ν u i) in
          (v, inr (miss, positive (run A v) (λ z. h (sym e ∙ other_name A t ts ν v miss ∙ z))), e)
      named i (inr (inr (v, s, o, e))) =
          let j = subtree-in t v s in
          (v, inl (j, o), subtree-name A t ts ν v j ∙ o ∙ sym e ∙ sym (subtree-name A t ts ν u i))

      go : (is_subtree t u ≡ true) ⊎ (is_subtree t u ≡ false) → (v : Tree) × R v × (N v ≡ N u)
      go (inl s) = named (subtree-in t u s) (H.named u s)
      go (inr s) =
          let miss = other-in t u s in
          (u, inr (miss, positive (run A u) (λ z. h (other_name A t ts ν u miss ∙ z))), refl)

  reps-of : (f : Forest) → AllTrees (λ u. N u ≢ 0) f → (g : Forest) × AllTrees R g × (each_tree N g ≡ each_tree N f)
  reps-of nil h = (nil, tt, refl)
  reps-of (cons u f) h =
      let (v, p, e) = rep-of u h.0 in
      let (g, ps, es) = reps-of f h.1 in
      (cons v g, (p, ps), cc (e, es))

  -- ---- the transitions between names

  pub quotient-of : (S : Tree → Bool) → Naming A t S (name_of A t ν) →
      QuotientOf (name_of A t ν) (quotient_list A t ts ν)
  unfolding Top
  quotient-of S M = record { all = all'; only = λ τ i. only' τ (list-in A t ts ν ranged rises listed τ i) }
    where
      all' : (a : ℕ) (f : Forest) → N (node a f) ≢ 0 → transition_of N a f ∈ quotient_list A t ts ν
      all' a f h =
          let (g, p, e) = reps-of f (named-children A t S N M a f h) in
          let d = same-children A t S N M a g f e in
          subst (λ (τ : Transition). τ ∈ quotient_list A t ts ν)
          (λ i. record { label = a; args = e i; out = d i })
          (in_list A t ts ν ranged rises listed a g p (λ z. h (sym d ∙ z)))

      only' : (τ : Transition) → Top A t ts ν τ → BetweenNames N τ
      only' τ (a, g, p, h, e) = (a, g, h, e)

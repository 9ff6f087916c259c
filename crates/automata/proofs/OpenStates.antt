-- Open states: marks that hold all states without subtrees and all whose nodes over subtrees are too many, and that
-- go from arguments to outputs, are exactly the open states, if no such marks are fewer.
use mathlib.Core.Bool.{Bool, false, not, true, true≢false}
use mathlib.Core.List.{List, [], ◌∷◌}
use mathlib.Core.Logic.{◌⊎◌, inl, inr}
use mathlib.Core.Path.{◌∙◌, ◌≡◌, ap, refl, subst, sym}
use Prim.Native.Nat.{◌≤◌, ℕ}
use native.Mathlib.Omega.{arith}
use lib.Dec.{eqb}
use lib.ListN.{length}
use borrow.Author.Tests.{eq-eqb, eqb-true, not-false, not-true}
use Rattle.automata.specs.Accessible.{all_accessible}
use Rattle.automata.specs.Automaton.{Automaton, Fits, IsState, Transition, run, runs, step}
use Rattle.automata.specs.Change.{subtrees}
use Rattle.automata.specs.Order.{rising}
use Rattle.automata.specs.Totals.{sum_into}
use Rattle.automata.specs.Valid.{states_in_range}
use Rattle.lists.specs.Closure.{elem}
use Rattle.lists.specs.Tests.{Distinct, ◌∈◌, any}
use Rattle.trees.specs.Tree.{Forest, Tree, cons, eq_tree, nil, node}
use Rattle.automata.proofs.Accessible.{forest}
use Rattle.automata.proofs.Change.{subtrees-closed}
use Rattle.automata.proofs.Steps.{Taken, step-view}
use Rattle.automata.proofs.TotalsLists.{nodes_into, nodes_into-length}
use Rattle.automata.proofs.Valid.{ranged-fits, ranged-transition, state-tree}
use Rattle.lists.proofs.Closure.{elem_in, in-elem}
use Rattle.lists.proofs.Distinct.{distinct-length}
use Rattle.lists.proofs.Tests.{or_cases, or-none-left, or-none-right, same_test}
use Rattle.trees.proofs.Trees.{eq_tree-same, eq_tree-true}
use Rattle.automata.specs.OpenStates.{at_state, open_state, opens_at, subtrees_at}
use Rattle.automata.proofs.SubtreeNodes.{InTree, at-distinct, at_in, at_into, in-at, in-into, into-distinct, into-run}
use Rattle.automata.proofs.SubtreeNodes.{run-over}
use Rattle.automata.proofs.StatePairs.{open-tree, tree-open}

-- a list of trees without repeats that is as long as a list around it has all of it
all-within : (xs ys : List Tree) → Distinct xs → ((u : Tree) → u ∈ xs → u ∈ ys) → length ys ≤ length xs →
    (u : Tree) → u ∈ ys → u ∈ xs
all-within xs ys d h l u i = go (elem eq_tree u xs) refl
  where
    go : (b : Bool) → elem eq_tree u xs ≡ b → u ∈ xs
    go true e = elem_in eq_tree eq_tree-true eq_tree-same u xs e
    go false e =
        absurd (omega (
          arith,
          distinct-length (u ∷ xs) ys
              (λ j. true≢false (sym (in-elem eq_tree eq_tree-true eq_tree-same u xs j) ∙ e), d) more,
        ))
      where
        more : (v : Tree) → v ∈ (u ∷ xs) → v ∈ ys
        more v (inl w) = subst (λ (x : Tree). x ∈ ys) (sym w) i
        more v (inr j) = h v j

none-at : {X : Type 0} (xs : List X) → length xs ≡ 0 → (x : X) → x ∈ xs → ⊥
none-at [] e x i = i
none-at (y ∷ ys) e x i = omega arith

module _ (A : Automaton) (ranged : states_in_range A ≡ true) (rises : rising A.transitions ≡ true)
    (reached : all_accessible A ≡ true) (t : Tree) where
  fit : Fits A
  fit = ranged-fits A ranged

  -- ---- what is marked is open

  -- all trees of a state that is not open are subtrees
  shut-in : (q : ℕ) → 1 ≤ q → open_state A t q ≡ false → (u : Tree) → run A u ≡ q → u ∈ subtrees t
  shut-in q s h u e = go (elem eq_tree u (subtrees t)) refl
    where
      go : (b : Bool) → elem eq_tree u (subtrees t) ≡ b → u ∈ subtrees t
      go true d = elem_in eq_tree eq_tree-true eq_tree-same u (subtrees t) d
      go false d =
          absurd (true≢false
          (sym (tree-open A fit t q s u e
          (λ i. true≢false (sym (in-elem eq_tree eq_tree-true eq_tree-same u (subtrees t) i) ∙ d)))
          ∙ h))

  none_open : (q : ℕ) → IsState A q → at_state A t q ≡ 0 → open_state A t q ≡ true
  none_open q s e =
      let (u, r) = state-tree A ranged rises reached q s in
      tree-open A fit t q s.0 u r (λ i. none-at (subtrees_at A t q) e u (in-at A t q u i r))

  shut-sum : (q : ℕ) → 1 ≤ q → open_state A t q ≡ false →
      sum_into (at_state A t) q A.transitions ≡ at_state A t q
  shut-sum q s h =
      omega (
        arith,
        nodes_into-length (subtrees_at A t) q A.transitions,
        distinct-length (nodes_into (subtrees_at A t) q A.transitions) (subtrees_at A t q)
            (into-distinct A t q A.transitions rises) within,
        distinct-length (subtrees_at A t q) (nodes_into (subtrees_at A t) q A.transitions) (at-distinct A t q)
            (at_into A t q s),
      )
    where
      within : (u : Tree) → u ∈ nodes_into (subtrees_at A t) q A.transitions → u ∈ subtrees_at A t q
      within u i = let e = into-run A ranged rises t q u i in in-at A t q u (shut-in q s h u e) e

  pub opens-open : (q : ℕ) → IsState A q → opens_at A t q ≡ true → open_state A t q ≡ true
  unfolding opens_at
  opens-open q s h = go (open_state A t q) refl
    where
      go : (b : Bool) → open_state A t q ≡ b → open_state A t q ≡ true
      go true e = e
      go false e =
          none_open q s
          (from (or_cases (eqb (at_state A t q) 0)
          (not (eqb (sum_into (at_state A t) q A.transitions) (at_state A t q))) h))
        where
          from : (eqb (at_state A t q) 0 ≡ true) ⊎
              (not (eqb (sum_into (at_state A t) q A.transitions) (at_state A t q)) ≡ true) → at_state A t q ≡ 0
          from (inl z) = eqb-true (at_state A t q) 0 z
          from (inr z) =
              absurd (true≢false
              (sym (eq-eqb (sum_into (at_state A t) q A.transitions) (at_state A t q) (shut-sum q s.0 e))
              ∙ not-true _ z))

  -- trees for states, one of them no subtree
  outside : (qs : List ℕ) → ((q : ℕ) → q ∈ qs → IsState A q) → any (open_state A t) qs ≡ true →
      (f : Forest) × (runs A f ≡ qs) × (InTree A t f → ⊥)
  outside [] s h = absurd (true≢false (sym h))
  outside (q ∷ qs) s h = go (open_state A t q) refl (λ k. outside qs (λ p i. s p (inr i)) k)
    where
      go : (b : Bool) → open_state A t q ≡ b →
          (any (open_state A t) qs ≡ true → (f : Forest) × (runs A f ≡ qs) × (InTree A t f → ⊥)) →
          (f : Forest) × (runs A f ≡ (q ∷ qs)) × (InTree A t f → ⊥)
      go true e ih =
          let (u, r, miss) = open-tree A fit t q e in
          let (f, rs) = forest A qs (λ p i. state-tree A ranged rises reached p (s p (inr i))) in
          (cons u f, cc (r, rs), λ k. miss k.0)
      go false e ih =
          let (u, r) = state-tree A ranged rises reached q (s q (inl refl)) in
          let (f, rs, miss) = ih (rw e at h) in
          (cons u f, cc (r, rs), λ k. miss k.1)

  pub open-out : (τ : Transition) → τ ∈ A.transitions → any (open_state A t) τ.args ≡ true →
      open_state A t τ.out ≡ true
  open-out τ i h =
      let (f, r, miss) = outside τ.args (ranged-transition A ranged τ i).args h in
      tree-open A fit t τ.out (ranged-transition A ranged τ i).out.0 (node τ.label f)
      (run-over A ranged rises t τ i f r) (λ j. miss (subtrees-closed t τ.label f j))

  -- ---- what is open is marked

  module _ (p : ℕ → Bool) (starts : (q : ℕ) → IsState A q → opens_at A t q ≡ true → p q ≡ true)
      (up : (τ : Transition) → τ ∈ A.transitions → any p τ.args ≡ true → p τ.out ≡ true) where
    -- a node over subtrees whose state has no mark is a subtree
    shut-node : (a : ℕ) (f : Forest) → IsState A (run A (node a f)) → p (run A (node a f)) ≡ false → InTree A t f →
        node a f ∈ subtrees t
    unfolding opens_at
    shut-node a f s h k = go (opens_at A t (run A (node a f))) refl
      where
        go : (b : Bool) → opens_at A t (run A (node a f)) ≡ b → node a f ∈ subtrees t
        go true e = absurd (true≢false (sym (starts (run A (node a f)) s e) ∙ h))
        go false e =
            (at_in A t (run A (node a f)) (node a f)
            (all-within (subtrees_at A t (run A (node a f)))
            (nodes_into (subtrees_at A t) (run A (node a f)) A.transitions)
            (at-distinct A t (run A (node a f))) (at_into A t (run A (node a f)) s.0)
            (omega (
              arith,
              nodes_into-length (subtrees_at A t) (run A (node a f)) A.transitions,
              eqb-true (sum_into (at_state A t) (run A (node a f)) A.transitions)
                  (at_state A t (run A (node a f)))
                  (not-false _ (or-none-right (eqb (at_state A t (run A (node a f))) 0) _ e)),
            ))
            (node a f) (in-into A t a f k s.0))).0

    args-shut : (a : ℕ) (f : Forest) → 1 ≤ run A (node a f) → p (run A (node a f)) ≡ false →
        (IsState A (run A (node a f))) × ((q : ℕ) → q ∈ runs A f → IsState A q) × (any p (runs A f) ≡ false)
    args-shut a f s h = go (step-view A a (runs A f))
      where
        go : (step A a (runs A f) ≡ 0) ⊎ Taken A a (runs A f) →
            (IsState A (run A (node a f))) × ((q : ℕ) → q ∈ runs A f → IsState A q) × (any p (runs A f) ≡ false)
        go (inl z) = absurd (omega arith)
        go (inr (n, (τ, i, u, v, w))) = (
          subst (IsState A) w (ranged-transition A ranged τ i).out,
          subst (λ (qs : List ℕ). (q : ℕ) → q ∈ qs → IsState A q) v (ranged-transition A ranged τ i).args,
          none (any p (runs A f)) refl,
        )
          where
            none : (b : Bool) → any p (runs A f) ≡ b → any p (runs A f) ≡ false
            none true e =
                absurd (true≢false (sym (up τ i (subst (λ (qs : List ℕ). any p qs ≡ true) (sym v) e)) ∙ ap p w ∙ h))
            none false e = e

    mutual
      unmarked-in : (u : Tree) → 1 ≤ run A u → p (run A u) ≡ false → u ∈ subtrees t
      unmarked-in (node a f) s h =
          let (k, l, m) = args-shut a f s h in shut-node a f k h (unmarked-all f l m)

      unmarked-all : (f : Forest) → ((q : ℕ) → q ∈ runs A f → IsState A q) → any p (runs A f) ≡ false → InTree A t f
      unmarked-all nil l m = tt
      unmarked-all (cons u f) l m = (
        unmarked-in u (l (run A u) (inl refl)).0 (or-none-left (p (run A u)) (any p (runs A f)) m),
        unmarked-all f (λ q i. l q (inr i)) (or-none-right (p (run A u)) (any p (runs A f)) m),
      )

    pub open-marked : (q : ℕ) → 1 ≤ q → open_state A t q ≡ true → p q ≡ true
    open-marked q s h = go (p q) refl
      where
        go : (b : Bool) → p q ≡ b → p q ≡ true
        go true e = e
        go false e =
            let (u, r, miss) = open-tree A fit t q h in
            absurd (miss (unmarked-in u (omega (arith, r)) (ap p r ∙ e)))

    -- marks that no such set lacks are the open states
    pub open-exact : ((q : ℕ) → p q ≡ true → open_state A t q ≡ true) → (q : ℕ) → IsState A q →
        p q ≡ open_state A t q
    open-exact least q s = same_test (p q) (open_state A t q) (least q) (open-marked q s.0)

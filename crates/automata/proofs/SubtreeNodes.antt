-- Nodes over the subtrees of a tree, by state: those that run to a state have all its subtrees, and none stands twice.
use mathlib.Core.Bool.{Bool, cond, false, true}
use mathlib.Core.List.{List, [], ◌++◌, ◌∷◌}
use mathlib.Core.Logic.{◌⊎◌, inl, inr}
use mathlib.Core.Path.{◌∙◌, ◌≡◌, ap, refl, subst, sym}
use Prim.Native.Nat.{◌≤◌, ℕ}
use native.Mathlib.Omega.{arith}
use lib.Dec.{eqb}
use borrow.Author.Tests.{eq-eqb, eqb-true}
use Rattle.automata.specs.Automaton.{Automaton, Transition, run, runs, step}
use Rattle.automata.specs.Change.{subtrees}
use Rattle.automata.specs.Order.{key, lex, rising}
use Rattle.automata.specs.Valid.{states_in_range}
use Rattle.lists.specs.Tests.{Distinct, ◌∈◌}
use Rattle.trees.specs.Tree.{AllTrees, Forest, Tree, cons, nil, node}
use Rattle.automata.proofs.Change.{subtrees-closed}
use Rattle.automata.proofs.Order.{key-equal, lex_irrefl, lookup-transition, rising-head, rising-tail}
use Rattle.automata.proofs.Steps.{Taken, step-view}
use Rattle.automata.proofs.SubtreeContexts.{subtrees-exact}
use Rattle.automata.proofs.TotalsLists.{Chosen, choices, choices-distinct, choices-in, in-choices, in-nodes_into}
use Rattle.automata.proofs.TotalsLists.{nodes_into, nodes_into-in, nodes_over}
use Rattle.automata.proofs.Valid.{ranged-transition}
use Rattle.lists.proofs.Distinct.{append-distinct, filter-distinct, map-distinct}
use Rattle.lists.proofs.Tests.{filter-in, in-filter, in_map, map-in, none-zero}
use Rattle.trees.proofs.Trees.{node-children, node-label}
use Rattle.automata.specs.OpenStates.{subtrees_at}

module _ (A : Automaton) (t : Tree) where
  pub at_in : (q : ℕ) (u : Tree) → u ∈ subtrees_at A t q → (u ∈ subtrees t) × (run A u ≡ q)
  unfolding subtrees_at
  at_in q u i = let (j, e) = filter-in (λ u. eqb (run A u) q) (subtrees t) u i in (j, eqb-true (run A u) q e)

  pub in-at : (q : ℕ) (u : Tree) → u ∈ subtrees t → run A u ≡ q → u ∈ subtrees_at A t q
  unfolding subtrees_at
  in-at q u i e = in-filter (λ u. eqb (run A u) q) (subtrees t) u i (eq-eqb (run A u) q e)

  pub at-distinct : (q : ℕ) → Distinct (subtrees_at A t q)
  unfolding subtrees_at
  at-distinct q = filter-distinct (λ u. eqb (run A u) q) (subtrees t) (subtrees-exact t).once

  abbrev pub InTree : Forest → Type 0
  InTree f = AllTrees (λ u. u ∈ subtrees t) f

  chosen-runs : (f : Forest) (qs : List ℕ) → Chosen (subtrees_at A t) f qs → runs A f ≡ qs
  chosen-runs nil [] h = refl
  chosen-runs nil (q ∷ qs) h = absurd h
  chosen-runs (cons u f) [] h = absurd h
  chosen-runs (cons u f) (q ∷ qs) h = cc ((at_in q u h.0).1, chosen-runs f qs h.1)

  runs-chosen : (f : Forest) → InTree f → Chosen (subtrees_at A t) f (runs A f)
  runs-chosen nil h = tt
  runs-chosen (cons u f) h = (in-at (run A u) u h.0 refl, runs-chosen f h.1)

  -- what stands at a transition has its arguments
  over_runs : (τ : Transition) (u : Tree) → u ∈ nodes_over (subtrees_at A t) τ →
      (f : Forest) × (u ≡ node τ.label f) × (runs A f ≡ τ.args)
  unfolding nodes_over
  over_runs τ u j =
      let (f, k, e) = map-in (node τ.label) (choices (subtrees_at A t) τ.args) u j in
      (f, e, chosen-runs f τ.args (choices-in (subtrees_at A t) τ.args f k))

  over-distinct : (τ : Transition) → Distinct (nodes_over (subtrees_at A t) τ)
  unfolding nodes_over
  over-distinct τ =
      map-distinct (node τ.label) (choices (subtrees_at A t) τ.args)
      (λ f g k l. node-children τ.label τ.label f g)
      (choices-distinct (subtrees_at A t) τ.args (λ q j. at-distinct q))

  -- a tree stands at one transition only
  over-one : (σ τ : Transition) (u : Tree) → u ∈ nodes_over (subtrees_at A t) σ →
      u ∈ nodes_over (subtrees_at A t) τ → key σ ≡ key τ
  over-one σ τ u k l =
      let (f, e, r) = over_runs σ u k in
      let (g, d, s) = over_runs τ u l in
      let z : node σ.label f ≡ node τ.label g = sym e ∙ d in
      key-equal σ τ (node-label σ.label τ.label f g z)
      (sym r ∙ ap (runs A) (node-children σ.label τ.label f g z) ∙ s)

  pub into-distinct : (q : ℕ) (τs : List Transition) → rising τs ≡ true → Distinct (nodes_into (subtrees_at A t) q τs)
  unfolding nodes_into
  into-distinct q [] r = tt
  into-distinct q (τ ∷ τs) r = go (into-distinct q τs (rising-tail τ τs r)) (eqb τ.out q)
    where
      apart : (u : Tree) → u ∈ nodes_over (subtrees_at A t) τ → u ∈ nodes_into (subtrees_at A t) q τs → ⊥
      apart u i j =
          let (σ, k, o, l) = nodes_into-in (subtrees_at A t) q τs u j in
          lex_irrefl (key τ)
          (subst (λ (ks : List ℕ). lex (key τ) ks ≡ true) (sym (over-one τ σ u i l)) (rising-head τ τs r σ k))

      go : Distinct (nodes_into (subtrees_at A t) q τs) → (b : Bool) →
          Distinct (cond b (nodes_over (subtrees_at A t) τ) [] ++ nodes_into (subtrees_at A t) q τs)
      go ih true =
          append-distinct (nodes_over (subtrees_at A t) τ) (nodes_into (subtrees_at A t) q τs) (over-distinct τ) ih apart
      go ih false = ih

  -- a node over subtrees that runs to a state stands among those into the state
  pub in-into : (a : ℕ) (f : Forest) → InTree f → 1 ≤ run A (node a f) →
      node a f ∈ nodes_into (subtrees_at A t) (run A (node a f)) A.transitions
  unfolding nodes_over
  in-into a f h s = go (step-view A a (runs A f))
    where
      go : (step A a (runs A f) ≡ 0) ⊎ Taken A a (runs A f) →
          node a f ∈ nodes_into (subtrees_at A t) (run A (node a f)) A.transitions
      go (inl z) = absurd (omega arith)
      go (inr (n, (τ, i, u, v, w))) =
          in-nodes_into (subtrees_at A t) (run A (node a f)) A.transitions (node a f) τ i w
          (rw (u, v)
          (in_map (node a) (choices (subtrees_at A t) (runs A f)) f
          (in-choices (subtrees_at A t) f (runs A f) (runs-chosen f h))))

  pub at_into : (q : ℕ) → 1 ≤ q → (u : Tree) → u ∈ subtrees_at A t q →
      u ∈ nodes_into (subtrees_at A t) q A.transitions
  at_into q s (node a f) i =
      let (j, e) = at_in q (node a f) i in
      subst (λ (p : ℕ). node a f ∈ nodes_into (subtrees_at A t) p A.transitions) e
      (in-into a f (subtrees-closed t a f j) (omega (arith, e)))

module _ (A : Automaton) (ranged : states_in_range A ≡ true) (rises : rising A.transitions ≡ true) (t : Tree) where
  -- a node over trees of a transition's arguments runs to its output
  pub run-over : (τ : Transition) → τ ∈ A.transitions → (f : Forest) → runs A f ≡ τ.args →
      run A (node τ.label f) ≡ τ.out
  run-over τ i f r =
      let z = none-zero τ.args (λ q k. ((ranged-transition A ranged τ i).args q k).0) in
      rw (r, z) (lookup-transition A.transitions rises τ i)

  pub into-run : (q : ℕ) (u : Tree) → u ∈ nodes_into (subtrees_at A t) q A.transitions → run A u ≡ q
  into-run q u i =
      let (τ, j, o, k) = nodes_into-in (subtrees_at A t) q A.transitions u i in
      let (f, e, r) = over_runs A t τ u k in
      ap (run A) e ∙ run-over τ j f r ∙ o

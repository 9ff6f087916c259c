-- The transitions over choices of kept names are those at the top of nodes over representatives that run to a state,
-- none twice, and there are as many as there are choices.
use mathlib.Core.Bool.{Bool, cond, false, not, true}
use mathlib.Core.List.{List, [], ◌∷◌, map}
use mathlib.Core.Logic.{◌⊎◌, inl, inr}
use mathlib.Core.Path.{◌∙◌, ◌≡◌, ap, refl, subst, sym}
use Prim.Native.Nat.{◌+◌, ◌≤◌, suc, ℕ}
use native.Mathlib.Omega.{arith}
use lib.ListN.{length, length-append, length-map}
use Rattle.automata.specs.Automaton.{Automaton, Fits, Transition, run, runs, step}
use Rattle.automata.specs.Canonical.{each_tree, transition_of}
use Rattle.automata.specs.Change.{subtrees}
use Rattle.automata.specs.OpenStates.{sum_over}
use Rattle.automata.specs.Order.{key, lex, rising}
use Rattle.automata.specs.Product.{concat_map}
use Rattle.automata.specs.Quotient.{children_own, choices, kept_names, own_names, own_transition, quotient_transition}
use Rattle.automata.specs.SubtreeNames.{name_of}
use Rattle.automata.specs.Valid.{states_in_range}
use Rattle.lists.specs.Tests.{Distinct, Exactly, ◌∈◌, filter}
use Rattle.trees.specs.Tree.{Forest, Tree, cons, nil, node}
use Rattle.automata.proofs.Change.{subtrees-closed}
use Rattle.automata.proofs.NameChoices.{Split, choice-split, choices-distinct, choices-length, split-choice}
use Rattle.automata.proofs.Nodes.{concat_map-in, in-concat_map}
use Rattle.automata.proofs.Order.{key-equal, lex_irrefl, rising-head, rising-tail}
use Rattle.automata.proofs.Representatives.{RepAt, Reps, kept-distinct, kept-rep, node-name, own-reps, rep-kept}
use Rattle.automata.proofs.Representatives.{reps-children, reps-own, reps-run, subtree-name}
use Rattle.automata.proofs.Steps.{Taken, step-view}
use Rattle.automata.proofs.SubtreeNodes.{run-over}
use Rattle.automata.proofs.Valid.{ranged-fits, ranged-transition}
use Rattle.lists.proofs.Distinct.{append-distinct, filter-distinct, map-distinct}
use Rattle.lists.proofs.Tests.{filter-in, in-filter, in_map, map-in}

-- what passes a test and what does not
pub filter_parts : {X : Type 0} (p : X → Bool) (xs : List X) →
    length (filter p xs) + length (filter (λ x. not (p x)) xs) ≡ length xs
filter_parts p [] = refl
filter_parts {X} p (x ∷ xs) = go (filter_parts p xs) (p x)
  where
    go : length (filter p xs) + length (filter (λ x. not (p x)) xs) ≡ length xs → (b : Bool) →
        length (cond b (x ∷ filter p xs) (filter p xs))
        + length (cond (not b) (x ∷ filter (λ x. not (p x)) xs) (filter (λ x. not (p x)) xs)) ≡ suc (length xs)
    go ih true = omega arith
    go ih false = omega arith

same-label : (σ τ : Transition) → σ ≡ τ → σ.label ≡ τ.label
same-label σ τ e = ap (λ (υ : Transition). υ.label) e

same_args : (σ τ : Transition) → σ ≡ τ → σ.args ≡ τ.args
same_args σ τ e = ap (λ (υ : Transition). υ.args) e

module _ (A : Automaton) (t : Tree) (ts : List Tree) (ν : Tree → ℕ) where
  abbrev N : Tree → ℕ
  N = name_of A t ν

  abbrev K : ℕ → List ℕ
  K = kept_names A t ts ν

  -- representatives of names
  abbrev R : Forest → Type 0
  R g = Reps A t ts ν g

  -- representatives of the names xs that run to qs
  RepsAt : List ℕ → List ℕ → Type 0
  RepsAt qs xs = (g : Forest) × R g × (each_tree N g ≡ xs) × (runs A g ≡ qs)

  -- the transitions over the choices for one transition
  unfoldable pub made : Transition → List Transition
  made τ = map (quotient_transition A ts ν τ) (choices K τ.args)

  -- σ stands over representatives that run to the arguments of τ
  MadeOf : Transition → Transition → Type 0
  MadeOf τ σ = (g : Forest) × R g × (runs A g ≡ τ.args) × (σ ≡ transition_of N τ.label g)

  -- those over all transitions that pass a test
  unfoldable pub passing : (Transition → Bool) → List Transition → List Transition
  passing test τs = concat_map (λ τ. filter test (made τ)) τs

  -- σ passes the test, and stands over representatives that run to a state
  unfoldable pub Passing : (Transition → Bool) → Transition → Type 0
  Passing test σ =
      (a : ℕ) × (g : Forest) × Reps A t ts ν g × (1 ≤ run A (node a g)) × (σ ≡ transition_of N a g) × (test σ ≡ true)

  -- u is a node over representatives
  unfoldable pub OwnTop : Tree → Type 0
  OwnTop u =
      (a : ℕ) × (g : Forest) × Reps A t ts ν g × (u ≡ node a g) × (own_transition A ts ν u ≡ transition_of N a g)

  module _ (ranged : states_in_range A ≡ true) (rises : rising A.transitions ≡ true)
      (listed : Exactly (λ u. u ∈ subtrees t) ts) where
    fit : Fits A
    fit = ranged-fits A ranged

    -- ---- choices of names

    choice-reps : (qs : List ℕ) → ((q : ℕ) → q ∈ qs → 1 ≤ q) → (xs : List ℕ) → xs ∈ choices K qs → RepsAt qs xs
    unfolding RepsAt RepAt
    choice-reps [] s xs (inl e) = (nil, tt, sym e, refl)
    choice-reps [] s xs (inr i) = absurd i
    choice-reps (q ∷ qs) s xs i =
        go (choice-split K q qs xs i) (λ ys j. choice-reps qs (λ p k. s p (inr k)) ys j)
      where
        go : Split K q qs xs → ((ys : List ℕ) → ys ∈ choices K qs → RepsAt qs ys) → RepsAt (q ∷ qs) xs
        go (x, j, (ys, k, e)) ih =
            let (u, p, d, r) = kept-rep A t ts ν fit listed q (s q (inl refl)) x j in
            let (g, ps, ds, rs) = ih ys k in
            (cons u g, (p, ps), cc (d, ds, e), cc (r, rs))

    reps-choice : (g : Forest) → R g → each_tree N g ∈ choices K (runs A g)
    reps-choice nil p = inl refl
    reps-choice (cons u g) p =
        split-choice K (run A u) (runs A g) (N u) (each_tree N g) (rep-kept A t ts ν fit listed u p.0)
        (reps-choice g p.1)

    -- ---- the transitions over the choices for one transition

    quotient-same : (τ : Transition) → τ ∈ A.transitions → (g : Forest) → R g → runs A g ≡ τ.args →
        quotient_transition A ts ν τ (each_tree N g) ≡ transition_of N τ.label g
    quotient-same τ i g p r =
        let o = node-name A t ts ν fit listed τ.label g p τ.out (run-over A ranged rises t τ i g r) in
        λ j. record { label = τ.label; args = each_tree N g; out = o j }

    made_in : (τ : Transition) → τ ∈ A.transitions → (σ : Transition) → σ ∈ made τ → MadeOf τ σ
    unfolding made MadeOf RepsAt
    made_in τ i σ j =
        let (xs, k, e) = map-in (quotient_transition A ts ν τ) (choices K τ.args) σ j in
        let (g, p, d, r) = choice-reps τ.args (λ q l. ((ranged-transition A ranged τ i).args q l).0) xs k in
        (g, p, r, e ∙ ap (quotient_transition A ts ν τ) (sym d) ∙ quotient-same τ i g p r)

    in-made : (τ : Transition) → τ ∈ A.transitions → (g : Forest) → R g → runs A g ≡ τ.args →
        transition_of N τ.label g ∈ made τ
    unfolding made
    in-made τ i g p r =
        subst (λ (σ : Transition). σ ∈ map (quotient_transition A ts ν τ) (choices K τ.args))
        (quotient-same τ i g p r)
        (in_map (quotient_transition A ts ν τ) (choices K τ.args) (each_tree N g)
        (subst (λ (qs : List ℕ). each_tree N g ∈ choices K qs) r (reps-choice g p)))

    made-distinct : (τ : Transition) → Distinct (made τ)
    unfolding made
    made-distinct τ =
        map-distinct (quotient_transition A ts ν τ) (choices K τ.args)
        (λ xs ys i j. same_args (quotient_transition A ts ν τ xs) (quotient_transition A ts ν τ ys))
        (choices-distinct K τ.args (λ q i. kept-distinct A t ts ν fit listed q))

    -- two transitions make nothing in common
    made_one : (σ τ : Transition) → σ ∈ A.transitions → τ ∈ A.transitions → (υ : Transition) → υ ∈ made σ →
        υ ∈ made τ → key σ ≡ key τ
    unfolding MadeOf
    made_one σ τ i j υ k l =
        let (g, p, r, e) = made_in σ i υ k in
        let (h, q, s, d) = made_in τ j υ l in
        let z = sym e ∙ d in
        key-equal σ τ (same-label (transition_of N σ.label g) (transition_of N τ.label h) z)
        (sym r ∙ reps-run A t ts ν fit listed g h p q
        (same_args (transition_of N σ.label g) (transition_of N τ.label h) z) ∙ s)

    -- ---- those over all transitions that pass a test

    module _ (test : Transition → Bool) where
      pub passing-in : (σ : Transition) → σ ∈ passing test A.transitions → Passing test σ
      unfolding passing MadeOf Passing
      passing-in σ i =
          let (τ, j, k) = concat_map-in (λ τ. filter test (made τ)) A.transitions σ i in
          let (l, m) = filter-in test (made τ) σ k in
          let (g, p, r, e) = made_in τ j σ l in (
            τ.label,
            g,
            p,
            omega (arith, run-over A ranged rises t τ j g r, (ranged-transition A ranged τ j).out.0),
            e,
            m,
          )

      pub in-passing : (a : ℕ) (g : Forest) → R g → 1 ≤ run A (node a g) → test (transition_of N a g) ≡ true →
          transition_of N a g ∈ passing test A.transitions
      unfolding passing
      in-passing a g p s m = go (step-view A a (runs A g))
        where
          go : (step A a (runs A g) ≡ 0) ⊎ Taken A a (runs A g) → transition_of N a g ∈ passing test A.transitions
          go (inl z) = absurd (omega arith)
          go (inr (n, (τ, i, l, r, o))) =
              in-concat_map (λ τ. filter test (made τ)) A.transitions τ (transition_of N a g) i
              (in-filter test (made τ) (transition_of N a g)
              (subst (λ (b : ℕ). transition_of N b g ∈ made τ) l (in-made τ i g p (sym r))) m)

      passing-distinct-over : (τs : List Transition) → rising τs ≡ true →
          ((τ : Transition) → τ ∈ τs → τ ∈ A.transitions) → Distinct (passing test τs)
      unfolding passing
      passing-distinct-over [] r h = tt
      passing-distinct-over (τ ∷ τs) r h =
          append-distinct (filter test (made τ)) (passing test τs) (filter-distinct test (made τ) (made-distinct τ))
          (passing-distinct-over τs (rising-tail τ τs r) (λ σ i. h σ (inr i))) apart
        where
          apart : (υ : Transition) → υ ∈ filter test (made τ) → υ ∈ passing test τs → ⊥
          apart υ i j =
              let (σ, k, l) = concat_map-in (λ τ. filter test (made τ)) τs υ j in
              let e = made_one τ σ (h τ (inl refl)) (h σ (inr k)) υ (filter-in test (made τ) υ i).0
              (filter-in test (made σ) υ l).0 in
              lex_irrefl (key τ)
              (subst (λ (ks : List ℕ). lex (key τ) ks ≡ true) (sym e) (rising-head τ τs r σ k))

      pub passing-distinct : Distinct (passing test A.transitions)
      passing-distinct = passing-distinct-over A.transitions rises (λ τ i. i)

    pub passing-length : (test : Transition → Bool) (τs : List Transition) →
        length (passing test τs) + length (passing (λ σ. not (test σ)) τs) ≡ sum_over (λ q. length (K q)) τs
    unfolding made passing
    passing-length test [] = refl
    passing-length test (τ ∷ τs) =
        omega (
          arith,
          length-append (filter test (made τ)) (passing test τs),
          length-append (filter (λ σ. not (test σ)) (made τ)) (passing (λ σ. not (test σ)) τs),
          filter_parts test (made τ),
          length-map (choices K τ.args) (quotient_transition A ts ν τ),
          choices-length K τ.args,
          passing-length test τs,
        )

    -- ---- the transitions at the top of subtrees whose children have their own names

    pub top-own : (a : ℕ) (g : Forest) → R g → node a g ∈ subtrees t →
        (children_own A ts ν (node a g) ≡ true) × (own_transition A ts ν (node a g) ≡ transition_of N a g)
    top-own a g p i =
        let (d, c) = reps-own A t ts ν fit listed g p (subtrees-closed t a g i) in
        let o = subtree-name A t ts ν (node a g) i in
        (c, sym (λ j. record { label = a; args = d j; out = o j }))

    pub own-top : (u : Tree) → u ∈ subtrees t → children_own A ts ν u ≡ true → OwnTop u
    unfolding OwnTop
    own-top (node a f) i e =
        let p = own-reps A t ts ν fit listed f (subtrees-closed t a f i) e in (a, f, p, refl, (top-own a f p i).1)

    pub own-transition-inj : (u v : Tree) → u ∈ subtrees t → v ∈ subtrees t → children_own A ts ν u ≡ true →
        own_transition A ts ν u ≡ own_transition A ts ν v → u ≡ v
    own-transition-inj (node a f) (node b g) i j c e =
        let p = own-reps A t ts ν fit listed f (subtrees-closed t a f i) c in
        let d : own_names A ts f ≡ own_names A ts g =
        same_args (own_transition A ts ν (node a f)) (own_transition A ts ν (node b g)) e in
        cc (
          same-label (own_transition A ts ν (node a f)) (own_transition A ts ν (node b g)) e,
          reps-children A t ts ν fit listed f g p (subtrees-closed t b g j)
              ((reps-own A t ts ν fit listed f p (subtrees-closed t a f i)).0 ∙ d),
        )

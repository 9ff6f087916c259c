-- NO SMALLER: every deterministic automaton of a set has at least the states and the transitions of the canonical one.
use mathlib.Core.Bool.{Bool, true}
use mathlib.Core.List.{List, [], ◌∷◌}
use mathlib.Core.Logic.{inr}
use mathlib.Core.Path.{◌∙◌, ◌≡◌, refl, subst, sym}
use Prim.Native.Nat.{◌≤◌, ℕ}
use native.Mathlib.Omega.{arith}
use lib.ListN.{length}
use Rattle.automata.specs.AnyAutomaton.{AnyAutomaton, AtLeast, Deterministic, HasStates, HasTransitions}
use Rattle.automata.specs.AnyAutomaton.{Recognizes, RunEach, RunsTo, StateOf}
use Rattle.automata.specs.Automaton.{Automaton, Transition, states}
use Rattle.automata.specs.Canonical.{Canonical, Equivalent, Subtree, each_tree, transition_of}
use Rattle.lists.specs.Positions.{up_from}
use Rattle.lists.specs.Tests.{Counts, ◌∈◌}
use Rattle.trees.specs.Context.{Context, fill, plug}
use Rattle.trees.specs.Tree.{AllTrees, Forest, Tree, ◌⧺◌, cons, nil, node}
use Rattle.automata.proofs.Order.{key-equal, rising-one}
use Rattle.automata.proofs.ProductLaws.{rising-distinct}
use Rattle.automata.proofs.Unique.{children}
use Rattle.lists.proofs.Distinct.{partners-length, up_from-distinct}
use Rattle.lists.proofs.Positions.{up_from-in, up_from-length}
use Rattle.lists.proofs.Tests.{same_test}

module _ (B : AnyAutomaton) where
  -- what stands in a tree that runs to a state runs to a state itself
  run-among : (b : Forest) (t : Tree) (f : Forest) (qs : List ℕ) → RunEach B (b ⧺ cons t f) qs →
      (p : ℕ) × RunsTo B t p
  run-among nil t f [] r = absurd r
  run-among nil t f (q ∷ qs) r = (q, r.0)
  run-among (cons u b) t f [] r = absurd r
  run-among (cons u b) t f (q ∷ qs) r = run-among b t f qs r.1

  run_inside : (c : Context) (t : Tree) (q : ℕ) → RunsTo B (plug c t) q → (p : ℕ) × RunsTo B t p
  run_inside [] t q r = (q, r)
  run_inside (f ∷ c) t q r = let (p, s) = run_inside c (fill f t) q r in
      run-among f.before t f.after s.0 s.1

  -- a tree that runs to every state of another can take its place in a run
  exchange-among : (b : Forest) (t u : Tree) (f : Forest) (qs : List ℕ) →
      ((q : ℕ) → RunsTo B t q → RunsTo B u q) → RunEach B (b ⧺ cons t f) qs → RunEach B (b ⧺ cons u f) qs
  exchange-among nil t u f [] h r = absurd r
  exchange-among nil t u f (q ∷ qs) h r = (h q r.0, r.1)
  exchange-among (cons v b) t u f [] h r = absurd r
  exchange-among (cons v b) t u f (q ∷ qs) h r = (r.0, exchange-among b t u f qs h r.1)

  exchange : (c : Context) (t u : Tree) → ((q : ℕ) → RunsTo B t q → RunsTo B u q) → (q : ℕ) →
      RunsTo B (plug c t) q → RunsTo B (plug c u) q
  exchange [] t u h q r = h q r
  exchange (f ∷ c) t u h q r =
      exchange c (fill f t) (fill f u)
      (λ p s. (s.0, exchange-among f.before t u f.after s.0 h s.1, s.2)) q r

  -- the state of a tree occurs
  run-occurs : (t : Tree) (q : ℕ) → RunsTo B t q → StateOf B q
  run-occurs (node a f) q r = (record { label = a; args = r.0; out = q }, r.2, inr refl)

module _ (B : AnyAutomaton) (D : Deterministic B) where
  -- a tree runs to one state
  mutual
    pub run-one : (t : Tree) (p q : ℕ) → RunsTo B t p → RunsTo B t q → p ≡ q
    run-one (node a f) p q r s =
        D (record { label = a; args = r.0; out = p }) (record { label = a; args = s.0; out = q }) r.2 s.2 refl
        (run-each-one f r.0 s.0 r.1 s.1)

    run-each-one : (f : Forest) (ps qs : List ℕ) → RunEach B f ps → RunEach B f qs → ps ≡ qs
    run-each-one nil [] [] r s = refl
    run-each-one nil [] (q ∷ qs) r s = absurd s
    run-each-one nil (p ∷ ps) qs r s = absurd r
    run-each-one (cons t f) [] qs r s = absurd r
    run-each-one (cons t f) (p ∷ ps) [] r s = absurd s
    run-each-one (cons t f) (p ∷ ps) (q ∷ qs) r s =
        cc (run-one t p q r.0 s.0, run-each-one f ps qs r.1 s.1)

  module _ (S : Tree → Bool) (R : Recognizes B S) where
    -- trees with one state are equivalent
    state-part : (t u : Tree) (p : ℕ) → RunsTo B t p → RunsTo B u p → (c : Context) → S (plug c t) ≡ true →
        S (plug c u) ≡ true
    state-part t u p r s c e =
        let (q, w, a) = (R (plug c t)).1 e in
        (R (plug c u)).0
        (q, exchange B c t u (λ o v. subst (RunsTo B u) (run-one t p o r v) s) q w, a)

    state-equivalent : (t u : Tree) (p : ℕ) → RunsTo B t p → RunsTo B u p → Equivalent S t u
    state-equivalent t u p r s c =
        same_test (S (plug c t)) (S (plug c u)) (state-part t u p r s c) (state-part u t p s r c)

    -- a subtree stands in an accepted tree, so it runs to a state
    subtree-runs : (t : Tree) → Subtree S t → (p : ℕ) × RunsTo B t p
    subtree-runs t (c, e) = let (q, w, a) = (R (plug c t)).1 e in run_inside B c t q w

    module _ (A : Automaton) (X : Canonical S A) where
      -- trees with one state are of one group
      state-group : (t u : Tree) (p : ℕ) → Subtree S t → Subtree S u → RunsTo B t p → RunsTo B u p →
          X.group t ≡ X.group u
      state-group t u p i j r s = X.joins t u i j (state-equivalent t u p r s)

      state-groups : (f g : Forest) (ps : List ℕ) → AllTrees (Subtree S) f → AllTrees (Subtree S) g →
          RunEach B f ps → RunEach B g ps → each_tree X.group f ≡ each_tree X.group g
      state-groups nil nil ps i j r s = refl
      state-groups nil (cons u g) [] i j r s = absurd s
      state-groups nil (cons u g) (p ∷ ps) i j r s = absurd r
      state-groups (cons t f) nil [] i j r s = absurd r
      state-groups (cons t f) nil (p ∷ ps) i j r s = absurd s
      state-groups (cons t f) (cons u g) [] i j r s = absurd r
      state-groups (cons t f) (cons u g) (p ∷ ps) i j r s =
          cc (
            state-group t u p i.0 j.0 r.0 s.0,
            state-groups f g ps i.1 j.1 r.1 s.1,
          )

      -- a state of B is that of a subtree of group q
      abbrev StateFor : ℕ → ℕ → Type 0
      StateFor q p = (t : Tree) × Subtree S t × (X.group t ≡ q) × RunsTo B t p

      -- a transition of B is the one at the top of a subtree that has the transition τ of A
      abbrev TransitionFor : Transition → Transition → Type 0
      TransitionFor τ σ =
          (a : ℕ) × (f : Forest) × Subtree S (node a f) × (τ ≡ transition_of X.group a f) × (σ.label ≡ a) ×
          RunEach B f σ.args

      one-group : (q r p : ℕ) → StateFor q p → StateFor r p → q ≡ r
      one-group q r p (t, i, e, w) (u, j, d, v) = sym e ∙ state-group t u p i j w v ∙ d

      one-transition : (τ υ σ : Transition) → TransitionFor τ σ → TransitionFor υ σ → τ ≡ υ
      one-transition τ υ σ (a, f, i, e, l, r) (b, g, j, d, m, s) =
          e
          ∙ rising-one A.transitions X.sorted (transition_of X.group a f) (transition_of X.group b g)
          (X.occurs a f i) (X.occurs b g j)
          (key-equal (transition_of X.group a f) (transition_of X.group b g) (sym l ∙ m)
          (state-groups f g σ.args (children S a f i) (children S b g j) r s))
          ∙ sym d

      pub no-smaller : AtLeast (states A) (length A.transitions) B
      no-smaller = record { states = few-states; transitions = few-transitions }
        where
          few-states : (Q : List ℕ) → HasStates B Q → states A ≤ length Q
          few-states Q h =
              subst (λ (n : ℕ). n ≤ length Q) (up_from-length 1 (states A))
              (partners-length StateFor one-group (up_from 1 (states A)) Q (up_from-distinct 1 (states A)) partner)
            where
              partner : (q : ℕ) → q ∈ up_from 1 (states A) → (p : ℕ) × (p ∈ Q) × StateFor q p
              partner q i =
                  let k = up_from-in 1 (states A) q i in
                  let (t, j, e) = X.onto q k.0 (omega arith) in
                  let (p, r) = subtree-runs t j in
                  (p, h p (run-occurs B t p r), (t, j, e, r))

          few-transitions : (T : List Transition) → HasTransitions B T → length A.transitions ≤ length T
          few-transitions T h =
              partners-length TransitionFor one-transition A.transitions T
              (rising-distinct A.transitions X.sorted) partner
            where
              partner : (τ : Transition) → τ ∈ A.transitions → (σ : Transition) × (σ ∈ T) × TransitionFor τ σ
              partner τ i =
                  let (a, f, j, e) = X.only τ i in
                  let (p, r) = subtree-runs (node a f) j in
                  let σ : Transition = record { label = a; args = r.0; out = p } in
                  (σ, h σ r.2, (a, f, j, e, refl, r.1))

      -- the same of numbers: n states occur, and there are m distinct transitions
      pub no-smaller-counted : (n m : ℕ) → Counts (StateOf B) n → Counts (λ τ. τ ∈ B.transitions) m →
          (states A ≤ n) × (length A.transitions ≤ m)
      no-smaller-counted n m N M = (
        subst (λ (k : ℕ). states A ≤ k) (N.every-length N.list N.exactly)
            (no-smaller.states N.list (λ q. (N.exactly.members q).1)),
        subst (λ (k : ℕ). length A.transitions ≤ k) (M.every-length M.list M.exactly)
            (no-smaller.transitions M.list (λ τ. (M.exactly.members τ).1)),
      )

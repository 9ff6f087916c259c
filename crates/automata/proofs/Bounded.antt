-- BOUNDED: a canonical automaton is acyclic exactly when its set is bounded.
use mathlib.Core.Bool.{Bool, false, true, true≢false}
use mathlib.Core.List.{List, [], ◌++◌, ◌∷◌}
use mathlib.Core.Logic.{◌↔◌, ◌⊎◌, inl, inr}
use mathlib.Core.Path.{◌∙◌, ◌≡◌, ap, refl, subst, sym}
use Prim.Native.Nat.{◌<◌, ◌≤◌, max, suc, zero, ℕ}
use native.Mathlib.Omega.{arith}
use lib.Dec.{eqb}
use lib.ListN.{length, length-append}
use borrow.Author.Tests.{eqb-false}
use Rattle.automata.specs.Acyclic.{Bounded, Feeds, Leads, acyclic, leads, more, once}
use Rattle.automata.specs.Automaton.{Automaton, IsState, Transition, accepting, accepts, run, runs, states}
use Rattle.automata.specs.Automaton.{step}
use Rattle.automata.specs.Canonical.{Canonical, Occurs, Subtree, each_tree}
use Rattle.automata.specs.ContextRun.{run_context, step_frame}
use Rattle.automata.specs.Valid.{states_in_range}
use Rattle.lists.specs.Positions.{up_from}
use Rattle.lists.specs.Tests.{◌∈◌, any, filter}
use Rattle.trees.specs.Context.{Context, Frame, plug}
use Rattle.trees.specs.Tree.{Forest, Tree, ◌⧺◌, cons, depth, depths, nil, node}
use Rattle.automata.proofs.CanonicalChange.{canonical-ranged}
use Rattle.automata.proofs.CanonicalRun.{canonical-accepts, run-group}
use Rattle.automata.proofs.Leads.{acyclic-iff, leads-iff, leads-range}
use Rattle.automata.proofs.Steps.{Taken, run-fill, run-plug, run_context-append, step-view}
use Rattle.automata.proofs.Valid.{in-states, ranged-transition}
use Rattle.lists.proofs.Positions.{up_from-length}
use Rattle.lists.proofs.Tests.{filter-in, filter-length}
use Rattle.lists.proofs.Tests.{filter-weaker, in-filter, or-none-left}
use Rattle.lists.proofs.Tests.{or-none-right}
use Rattle.trees.proofs.Trees.{depth-plug}

module _ (A : Automaton) (ok : states_in_range A ≡ true) where
  -- the number of states that lead to q
  unfoldable pub rank : ℕ → ℕ
  rank q = length (filter (λ p. leads A p q) (up_from 1 (states A)))

  module _ (ac : acyclic A ≡ true) where
    pub rank_less : (l : Transition) → l ∈ A.transitions → (p : ℕ) → p ∈ l.args → rank p < rank l.out
    unfolding rank
    rank_less l i p j =
        go (filter-weaker (λ x. leads A x p) (λ x. leads A x l.out) (up_from 1 (states A))
        (λ x n e. (leads-iff A ok x l.out).1 (more ((leads-iff A ok x p).0 e) feeds)))
      where
        feeds : Feeds A p l.out
        feeds = (l, i, j, refl)

        go : (filter (λ x. leads A x p) (up_from 1 (states A)) ≡ filter (λ x. leads A x l.out)
            (up_from 1 (states A))) ⊎
            (length (filter (λ x. leads A x p) (up_from 1 (states A))) < length
            (filter (λ x. leads A x l.out) (up_from 1 (states A)))) →
            length (filter (λ x. leads A x p) (up_from 1 (states A))) < length
            (filter (λ x. leads A x l.out) (up_from 1 (states A)))
        go (inr h) = h
        go (inl e) =
            let there = in-filter (λ x. leads A x l.out) (up_from 1 (states A)) p
            (in-states A p ((ranged-transition A ok l i).args p j)) ((leads-iff A ok p l.out).1 (once feeds)) in
            let back = filter-in (λ x. leads A x p) (up_from 1 (states A)) p
            (subst (λ (xs : List ℕ). p ∈ xs) (sym e) there) in
            absurd ((acyclic-iff A ok).0 ac p ((leads-iff A ok p p).0 back.1))

    mutual
      pub depth-rank : (t : Tree) → (run A t ≡ 0) ⊎ (depth t ≤ suc (rank (run A t)))
      depth-rank (node a f) = go (step-view A a (runs A f)) (λ n h e. depths-rank f n h e)
        where
          go : (step A a (runs A f) ≡ 0) ⊎ Taken A a (runs A f) →
              ((n : ℕ) → ((q : ℕ) → q ∈ runs A f → rank q < n) → any (eqb 0) (runs A f) ≡ false →
              depths f ≤ n) →
              (step A a (runs A f) ≡ 0) ⊎ (suc (depths f) ≤ suc (rank (step A a (runs A f))))
          go (inl z) ih = inl z
          go (inr (n, (l, i, u, v, w))) ih =
              inr (let h =
              ih (rank (step A a (runs A f))) (λ q j. rw (← w) (rank_less l i q (rw v j))) n in omega arith)

      depths-rank : (f : Forest) (n : ℕ) → ((q : ℕ) → q ∈ runs A f → rank q < n) →
          any (eqb 0) (runs A f) ≡ false → depths f ≤ n
      depths-rank nil n h e = omega arith
      depths-rank (cons t f) n h e =
          go (depth-rank t)
          (depths-rank f n (λ q j. h q (inr j))
          (or-none-right (eqb 0 (run A t)) (any (eqb 0) (runs A f)) e))
        where
          go : (run A t ≡ 0) ⊎ (depth t ≤ suc (rank (run A t))) → depths f ≤ n →
              max (depth t) (depths f) ≤ n
          go (inl z) k =
              absurd (eqb-false 0 (run A t) (or-none-left (eqb 0 (run A t)) (any (eqb 0) (runs A f)) e)
              (sym z))
          go (inr d) k = omega (arith, h (run A t) (inl refl))

  pub acyclic-bounded : acyclic A ≡ true → Bounded (accepts A)
  unfolding Bounded rank
  acyclic-bounded ac = (suc (states A), λ t e. go t e (depth-rank ac t))
    where
      go : (t : Tree) → accepts A t ≡ true → (run A t ≡ 0) ⊎ (depth t ≤ suc (rank (run A t))) →
          depth t ≤ suc (states A)
      go t e (inl z) = absurd (true≢false (sym e ∙ ap (accepting A) z))
      go t e (inr d) =
          omega (
            arith,
            filter-length (λ p. leads A p (run A t)) (up_from 1 (states A)),
            up_from-length 1
                (states A),
          )

-- a context in itself, n times
pub pow : Context → ℕ → Context
pow d zero = []
pow d (suc k) = d ++ pow d k

pub pow-length : (d : Context) → 1 ≤ length d → (k : ℕ) → k ≤ length (pow d k)
unfolding pow
pow-length d h zero = omega arith
pow-length d h (suc k) = omega (arith, length-append d (pow d k), pow-length d h k)

pub pow-run : (A : Automaton) (d : Context) (q : ℕ) → run_context A d q ≡ q → (k : ℕ) →
    run_context A (pow d k) q ≡ q
unfolding pow
pow-run A d q e zero = refl
pow-run A d q e (suc k) = run_context-append A d (pow d k) q ∙ ap (run_context A (pow d k)) e
    ∙ pow-run A d q e k

split-each : (g : Tree → ℕ) (f : Forest) (p : ℕ) → p ∈ each_tree g f →
    (b : Forest) × (t : Tree) × (c : Forest) × (f ≡ b ⧺ cons t c) × (p ≡ g t)
split-each g nil p x' = elim x' [ ]
split-each g (cons u f) p (inl e) = (nil, u, f, refl, e)
split-each g (cons u f) p (inr i) = let (b, t, c, d, e) = split-each g f p i in
    (cons u b, t, c, ap (cons u) d, e)

module _ (S : Tree → Bool) (A : Automaton) (X : Canonical S A) where
  -- a context of one frame or more that takes p to q
  abbrev Way : ℕ → ℕ → Type 0
  Way p q = (d : Context) × (1 ≤ length d) × (run_context A d p ≡ q)

  feeds-frame : {p q : ℕ} → Feeds A p q → (f : Frame) × (step_frame A f p ≡ q)
  feeds-frame {p} {q} (l, i, j, o) = from (X.only l i)
    where
      from : Occurs S X.group l → (f : Frame) × (step_frame A f p ≡ q)
      from (a, f, r, u) = cut (split-each X.group f p (subst (λ (m : Transition). p ∈ m.args) u j))
        where
          cut : (b : Forest) × (t : Tree) × (c : Forest) × (f ≡ b ⧺ cons t c) × (p ≡ X.group t) →
              (f : Frame) × (step_frame A f p ≡ q)
          cut (b, t, c, v, w) =
              let F : Frame = record { label = a; before = b; after = c } in
              let r' = subst (λ (x : Forest). Subtree S (node a x)) v r in
              let tp : Subtree S t = (F ∷ r'.0, r'.1) in (
                F,
                ap (step_frame A F) (w ∙ sym (run-group S A X t tp)) ∙ sym (run-fill A F t)
                    ∙ run-group S A X (node a (b ⧺ cons t c)) r'
                    ∙ ap (λ (x : Forest). X.group (node a x)) (sym v)
                    ∙ sym (ap (λ (m : Transition). m.out) u) ∙ o,
              )

  leads-way : {p q : ℕ} → Leads A p q → Way p q
  leads-way (once h) = let (f, r) = feeds-frame h in (f ∷ [], omega arith, r)
  leads-way {p} (more l h) =
      let (d, n, r) = leads-way l in
      let (f, w) = feeds-frame h in
      let e = run_context-append A d (f ∷ []) p ∙ ap (step_frame A f) r ∙ w in
      (d ++ (f ∷ []), omega (arith, length-append d (f ∷ [])), e)

  -- a state that comes back to itself: the way around, taken often enough, gives a tree of the set of any depth
  pub way_deep : (q : ℕ) → Leads A q q → (n : ℕ) → (t : Tree) × (S t ≡ true) × (n < depth t)
  way_deep q l n = go (leads-range A (canonical-ranged S A X) l).0 (leads-way l)
    where
      go : IsState A q → Way q q → (t : Tree) × (S t ≡ true) × (n < depth t)
      go (low, high) (d, h, r) =
          let (t, (c, e), g) = X.onto q low high in
          let rt : run A t ≡ q = run-group S A X t (c, e) ∙ g in
          let T : Tree = plug c (plug (pow d (suc n)) t) in
          let same : run A T ≡ run A (plug c t) = run-plug A c (plug (pow d (suc n)) t)
          ∙ ap (run_context A c)
          (run-plug A (pow d (suc n)) t ∙ ap (run_context A (pow d (suc n))) rt
          ∙ pow-run A d q r (suc n) ∙ sym rt) ∙ sym (run-plug A c t) in (
            T,
            sym (canonical-accepts S A X T) ∙ ap (accepting A) same ∙ canonical-accepts S A X (plug c t) ∙ e,
            omega (
              arith,
              depth-plug c (plug (pow d (suc n)) t),
              depth-plug (pow d (suc n)) t,
              pow-length d h (suc n),
            ),
          )

  pub bounded-acyclic : Bounded S → acyclic A ≡ true
  unfolding Bounded
  bounded-acyclic (n, bound) =
      (acyclic-iff A (canonical-ranged S A X)).1
      (λ q l. let (t, e, m) = way_deep q l n in omega (arith, bound t e))

-- a canonical automaton is acyclic exactly when its set is bounded
pub bounded-iff : (A : Automaton) → Canonical (accepts A) A → (acyclic A ≡ true) ↔ Bounded (accepts A)
bounded-iff A X = (acyclic-bounded A (canonical-ranged (accepts A) A X), bounded-acyclic (accepts A) A X)

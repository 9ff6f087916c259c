-- MINIMAL: the minimal automaton is canonical for what the automaton accepts.
use mathlib.Core.Bool.{Bool, cond, false, false≢true, not, true, true≢false}
use mathlib.Core.List.{List, [], ◌∷◌, map}
use mathlib.Core.Logic.{◌≢◌, ◌⊎◌, inl, inr}
use mathlib.Core.Path.{◌∙◌, ◌≡◌, ap, refl, sym}
use Prim.Native.Nat.{◌≤◌, suc, ℕ}
use native.Mathlib.Omega.{arith}
use lib.Dec.{eqb}
use borrow.Author.Tests.{eqb-false, ne_eqb, not-true}
use Rattle.automata.specs.Accessible.{ArgsAccessible}
use Rattle.automata.specs.Automaton.{Automaton, Fits, Transition, accepting, accepts, run, runs, states, step}
use Rattle.automata.specs.Canonical.{Canonical, Equivalent, Occurs, Subtree, each_tree, transition_of}
use Rattle.automata.specs.ContextRun.{run_context}
use Rattle.automata.specs.Distinguishable.{distinguishable, distinguishable_pairs}
use Rattle.automata.specs.Minimal.{first, merge, minimal, quotient, representative}
use Rattle.lists.specs.Closure.{elem}
use Rattle.lists.specs.Positions.{eq_pair, up_from}
use Rattle.lists.specs.Tests.{◌∈◌, filter}
use Rattle.trees.specs.Context.{Context}
use Rattle.trees.specs.Tree.{Forest, Tree, cons, nil, node}
use Rattle.automata.proofs.Accessible.{forest}
use Rattle.automata.proofs.Distinguishable.{distinguishable-separated, run_fits, separated-distinguishable}
use Rattle.automata.proofs.Renumbered.{Grouping, renumbered-canonical}
use Rattle.automata.proofs.Steps.{Taken, run-plug, run_context-zero, step-view}
use Rattle.lists.proofs.Positions.{in-up_from, up_from-in}
use Rattle.lists.proofs.Tests.{filter-in, in-filter, in_map, map-in}

first-pass : (p : ℕ → Bool) (xs : List ℕ) (x : ℕ) → x ∈ xs → p x ≡ true →
    (p (first p xs) ≡ true) × (first p xs ∈ xs)
first-pass p [] x i e = elim i [ ]
first-pass p (y ∷ xs) x i e = go (λ j. first-pass p xs x j e) (p y) refl i
  where
    go : (x ∈ xs → (p (first p xs) ≡ true) × (first p xs ∈ xs)) → (b : Bool) → p y ≡ b → x ∈ (y ∷ xs) →
        (p (cond b y (first p xs)) ≡ true) × (cond b y (first p xs) ∈ (y ∷ xs))
    go ih true h j = (h, inl refl)
    go ih false h (inl z) = absurd (true≢false (sym e ∙ ap p z ∙ h))
    go ih false h (inr j) = let r = ih j in (r.0, inr r.1)

pub first-same : (p q : ℕ → Bool) (xs : List ℕ) → ((x : ℕ) → x ∈ xs → p x ≡ q x) → first p xs ≡ first q xs
first-same p q [] h = refl
first-same p q (x ∷ xs) h = cc (h x (inl refl), first-same p q xs (λ y j. h y (inr j)))

pub bool_cases : (a b : Bool) → ((a ≢ b) → ⊥) → a ≡ b
bool_cases true true h = refl
bool_cases true false h = absurd (h true≢false)
bool_cases false true h = absurd (h false≢true)
bool_cases false false h = refl

module _ (A : Automaton) (fit : Fits A)
    (all : ArgsAccessible A) where
  unfoldable pub EquivalentStates : ℕ → ℕ → Type 0
  EquivalentStates p q = (c : Context) → accepting A (run_context A c p) ≡ accepting A (run_context A c q)

  pub indistinguishable-equivalent : (p q : ℕ) → p ≤ states A → q ≤ states A →
      distinguishable A p q ≡ false → EquivalentStates p q
  unfolding EquivalentStates
  indistinguishable-equivalent p q h k e c =
      bool_cases (accepting A (run_context A c p)) (accepting A (run_context A c q))
      (λ d. true≢false (sym (separated-distinguishable A fit c p q h k d) ∙ e))

  pub equivalent-indistinguishable : (p q : ℕ) → EquivalentStates p q → distinguishable A p q ≡ false
  unfolding EquivalentStates
  equivalent-indistinguishable p q e = go (distinguishable A p q) refl
    where
      go : (b : Bool) → distinguishable A p q ≡ b → b ≡ false
      go true h = let (c, d) = distinguishable-separated A all p q h in absurd (d (e c))
      go false h = refl

  r : ℕ → ℕ
  r = representative (distinguishable_pairs A) (states A)

  representative-equivalent : (p : ℕ) → p ≤ states A → EquivalentStates p (r p)
  unfolding EquivalentStates r representative
  representative-equivalent p h =
      let f = first-pass (λ q. not (elem eq_pair (p, q) (distinguishable_pairs A)))
      (up_from 0 (suc (states A))) p (in-up_from 0 (suc (states A)) p (omega arith) (omega arith))
      (ap not (equivalent-indistinguishable p p (λ c. refl))) in
      indistinguishable-equivalent p (r p) h (omega (arith, up_from-in 0 (suc (states A)) (r p) f.1))
      (not-true (distinguishable A p (r p)) f.0)

  equivalent-representative : (p q : ℕ) → p ≤ states A → q ≤ states A → EquivalentStates p q → r p ≡ r q
  unfolding EquivalentStates r representative
  equivalent-representative p q h k e =
      first-same (λ x. not (distinguishable A p x)) (λ x. not (distinguishable A q x))
      (up_from 0 (suc (states A))) same_list
    where
      same_list : (x : ℕ) → x ∈ up_from 0 (suc (states A)) →
          not (distinguishable A p x) ≡ not (distinguishable A q x)
      same_list x i = go (distinguishable A p x) (distinguishable A q x) refl refl
        where
          m : x ≤ states A
          m = omega (arith, up_from-in 0 (suc (states A)) x i)

          go : (b c : Bool) → distinguishable A p x ≡ b → distinguishable A q x ≡ c → not b ≡ not c
          go true true u v = refl
          go false false u v = refl
          go true false u v =
              absurd (true≢false
              (sym u ∙ equivalent-indistinguishable p x
              (λ c. e c ∙ indistinguishable-equivalent q x k m v c)))
          go false true u v =
              absurd (true≢false
              (sym v ∙ equivalent-indistinguishable q x
              (λ c. sym (e c) ∙ indistinguishable-equivalent p x h m u c)))

  representative-same : (p q : ℕ) → p ≤ states A → q ≤ states A → r p ≡ r q → EquivalentStates p q
  unfolding EquivalentStates
  representative-same p q h k e c = representative-equivalent p h c
      ∙ (rw e (sym (representative-equivalent q k c)))

  representative-zero : r 0 ≡ 0
  unfolding r representative EquivalentStates
  representative-zero = rw (equivalent-indistinguishable 0 0 (λ c. refl))

  -- trees and states
  abbrev S : Tree → Bool
  S = accepts A

  pub equivalent-states : (t u : Tree) → Equivalent S t u → EquivalentStates (run A t) (run A u)
  unfolding EquivalentStates
  equivalent-states t u h c = rw (← run-plug A c t, ← run-plug A c u) (h c)

  pub states-equivalent : (t u : Tree) → EquivalentStates (run A t) (run A u) → Equivalent S t u
  unfolding EquivalentStates
  states-equivalent t u h c = rw (run-plug A c t, run-plug A c u) (h c)

  subtree-used : (t : Tree) → Subtree S t → r (run A t) ≡ 0 → ⊥
  unfolding EquivalentStates
  subtree-used t (c, e) z =
      let d = representative-same (run A t) 0 (run_fits A fit t) (omega arith) (z ∙ sym representative-zero) c in
      let w : accepting A (run_context A c (run A t)) ≡ true = rw (run-plug A c t) at e in
      true≢false (sym w ∙ d ∙ ap (accepting A) (run_context-zero A c))

  used-subtree : (t : Tree) → (r (run A t) ≡ 0 → ⊥) → Subtree S t
  unfolding EquivalentStates
  used-subtree t h = go (distinguishable A (run A t) 0) refl
    where
      go : (b : Bool) → distinguishable A (run A t) 0 ≡ b → Subtree S t
      go true e = let (c, d) = distinguishable-separated A all (run A t) 0 e in
          (c, rw (run-plug A c t) (pick (accepting A (run_context A c (run A t))) c d refl))
        where
          pick : (b : Bool) (c : Context) →
              accepting A (run_context A c (run A t)) ≢ accepting A (run_context A c 0) →
              accepting A (run_context A c (run A t)) ≡ b → b ≡ true
          pick true c d e = refl
          pick false c d e = absurd (d (e ∙ sym (ap (accepting A) (run_context-zero A c))))
      go false e =
          absurd (h (equivalent-representative (run A t) 0 (run_fits A fit t) (omega arith)
          (indistinguishable-equivalent (run A t) 0 (run_fits A fit t) (omega arith) e) ∙ representative-zero))

  -- the group of a tree: the representative of its state
  unfoldable pub group_of : Tree → ℕ
  group_of t = representative (distinguishable_pairs A) (states A) (run A t)

  each-runs : (f : Forest) → each_tree group_of f ≡ map r (runs A f)
  unfolding group_of r
  each-runs nil = refl
  each-runs (cons t f) = rw (each-runs f)

  merged : (l : Transition) (a : ℕ) (f : Forest) → l.label ≡ a → l.args ≡ runs A f →
      merge A (distinguishable_pairs A) l ≡ transition_of group_of a f
  unfolding merge group_of r
  merged l a f p q = let e = ap (map r) q ∙ sym (each-runs f) in
      λ i. record { label = p i; args = e i; out = r (step A (p i) (q i)) }

  pub grouped : Grouping S group_of (quotient A (distinguishable_pairs A))
  unfolding group_of quotient r
  grouped = record {
    joins = λ t u p q e. equivalent-representative (run A t) (run A u) (run_fits A fit t) (run_fits A fit u)
        (equivalent-states t u e);
    separates = λ t u p q e. states-equivalent t u
        (representative-same (run A t) (run A u) (run_fits A fit t) (run_fits A fit u) e);
    occurs = occurs;
    only = only;
  }
    where
      occurs : (a : ℕ) (f : Forest) → Subtree S (node a f) →
          transition_of group_of a f ∈ filter (λ l. not (eqb 0 l.out))
          (map (merge A (distinguishable_pairs A)) A.transitions)
      occurs a f p = go (step-view A a (runs A f))
        where
          go : (step A a (runs A f) ≡ 0) ⊎ Taken A a (runs A f) →
              transition_of group_of a f ∈ filter (λ l. not (eqb 0 l.out))
              (map (merge A (distinguishable_pairs A)) A.transitions)
          go (inl z) = absurd (subtree-used (node a f) p (ap r z ∙ representative-zero))
          go (inr (n, (l, i, u, v, w))) =
              in-filter (λ l. not (eqb 0 l.out))
              (map (merge A (distinguishable_pairs A)) A.transitions) (transition_of group_of a f)
              (rw (merged l a f u v) at (in_map (merge A (distinguishable_pairs A)) A.transitions l i))
              (ap not (ne_eqb 0 (group_of (node a f)) (λ z. subtree-used (node a f) p (sym z))))

      only : (l : Transition) →
          l ∈ filter (λ l. not (eqb 0 l.out))
          (map (merge A (distinguishable_pairs A)) A.transitions) → Occurs S group_of l
      only l i = from
          (filter-in (λ l. not (eqb 0 l.out)) (map (merge A (distinguishable_pairs A)) A.transitions)
          l i)
        where
          from : (l ∈ map (merge A (distinguishable_pairs A)) A.transitions) ×
              (not (eqb 0 l.out) ≡ true) → Occurs S group_of l
          from (j, e) = back (map-in (merge A (distinguishable_pairs A)) A.transitions l j)
            where
              back : (m : Transition) × (m ∈ A.transitions) × (l ≡ merge A (distinguishable_pairs A) m) →
                  Occurs S group_of l
              back (m, k, u) = made (forest A m.args (λ q n. all m k q n))
                where
                  made : (f : Forest) × (runs A f ≡ m.args) → Occurs S group_of l
                  made (f, v) =
                      let w = u ∙ merged m m.label f refl (sym v) in (
                        m.label,
                        f,
                        used-subtree (node m.label f)
                            (λ z. eqb-false 0 l.out (not-true (eqb 0 l.out) e)
                            (sym (ap (λ (x : Transition). x.out) w ∙ z))),
                        w,
                      )

  group-accepting : (t : Tree) → Subtree S t → accepting A (group_of t) ≡ S t
  unfolding EquivalentStates group_of r
  group-accepting t p = sym (representative-equivalent (run A t) (run_fits A fit t) [])

  pub minimal-canonical : Canonical (accepts A) (minimal A)
  unfolding minimal
  minimal-canonical =
      renumbered-canonical S group_of (quotient A (distinguishable_pairs A)) grouped (accepting A) group-accepting

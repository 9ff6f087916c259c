-- An automaton with sorted transitions and no output 0, as one of any make: trees run to the same states, so it is
-- deterministic and accepts the same set. The canonical automaton is one of those that NO SMALLER speaks of.
use mathlib.Core.Bool.{Bool, false, false≢true, true}
use mathlib.Core.List.{List, [], ◌∷◌}
use mathlib.Core.Logic.{◌⊎◌, inl, inr}
use mathlib.Core.Path.{◌∙◌, ◌≡◌, ap, fun_ext, refl, subst}
use Prim.Native.Nat.{◌≤◌, suc, zero, ℕ}
use native.Mathlib.Omega.{arith}
use lib.Dec.{eqb}
use lib.ListN.{length}
use borrow.Author.Tests.{eqb-false, eqb-true, ne_eqb}
use Rattle.automata.specs.AnyAutomaton.{Deterministic, HasStates, HasTransitions, Recognizes, RunEach}
use Rattle.automata.specs.AnyAutomaton.{Accepts, RunsTo, StateOf}
use Rattle.automata.specs.Automaton.{Automaton, IsState, Transition, accepting, accepts, run, runs, states, step}
use Rattle.automata.specs.Canonical.{Canonical}
use Rattle.automata.specs.General.{general, occurring}
use Rattle.automata.specs.Order.{rising}
use Rattle.automata.specs.Valid.{states_in_range}
use Rattle.lists.specs.Closure.{elem}
use Rattle.lists.specs.Positions.{up_from}
use Rattle.lists.specs.Tests.{Exactly, ◌∈◌, any}
use Rattle.trees.specs.Tree.{Forest, Tree, cons, nil, node}
use Rattle.automata.proofs.CanonicalChange.{canonical-valid}
use Rattle.automata.proofs.CanonicalRun.{canonical-accepts}
use Rattle.automata.proofs.Order.{lookup-transition, rising-one}
use Rattle.automata.proofs.Steps.{Taken, step-view}
use Rattle.automata.proofs.Valid.{in-states, ranged-transition}
use Rattle.lists.proofs.Closure.{elem_in, in-elem}
use Rattle.lists.proofs.Distinct.{filter-distinct, up_from-distinct}
use Rattle.lists.proofs.Positions.{up_from-length}
use Rattle.lists.proofs.Tests.{any-in, eqb_same, filter-in, in-any, in-filter, or-none-left, or-none-right}

module _ (A : Automaton) (rises : rising A.transitions ≡ true)
    (positive : (τ : Transition) → τ ∈ A.transitions → 1 ≤ τ.out) where
  pub general-deterministic : Deterministic (general A)
  general-deterministic σ τ i j l e =
      ap (λ (υ : Transition). υ.out) (rising-one A.transitions rises σ τ i j (cc))

  -- a run of any make is the run
  mutual
    general-run : (t : Tree) (q : ℕ) → RunsTo (general A) t q → (run A t ≡ q) × (1 ≤ q)
    general-run (node a f) q r = go (general-runs f r.0 r.1)
      where
        τ : Transition
        τ = record { label = a; args = r.0; out = q }

        go : (runs A f ≡ r.0) × (any (eqb 0) r.0 ≡ false) → (step A a (runs A f) ≡ q) × (1 ≤ q)
        go (e, n) = (rw (e, n) (lookup-transition A.transitions rises τ r.2), positive τ r.2)

    general-runs : (f : Forest) (qs : List ℕ) → RunEach (general A) f qs →
        (runs A f ≡ qs) × (any (eqb 0) qs ≡ false)
    general-runs nil [] r = (refl, refl)
    general-runs nil (q ∷ qs) r = absurd r
    general-runs (cons t f) [] r = absurd r
    general-runs (cons t f) (q ∷ qs) r =
        let (e, h) = general-run t q r.0 in
        let (d, n) = general-runs f qs r.1 in
        (cc, rw (ne_eqb 0 q (λ z. omega arith)) n)

  -- and the other way round
  mutual
    run-general : (t : Tree) → 1 ≤ run A t → RunsTo (general A) t (run A t)
    run-general (node a f) h = go (step-view A a (runs A f)) (λ n. runs-general f n)
      where
        go : (step A a (runs A f) ≡ 0) ⊎ Taken A a (runs A f) →
            (any (eqb 0) (runs A f) ≡ false → RunEach (general A) f (runs A f)) →
            RunsTo (general A) (node a f) (step A a (runs A f))
        go (inl z) ih = absurd (omega arith)
        go (inr (n, (τ, i, l, d, o))) ih =
            (runs A f, ih n, subst (λ (υ : Transition). υ ∈ A.transitions) same i)
          where
            same : τ ≡ record { label = a; args = runs A f; out = step A a (runs A f) }
            same = λ k. record { label = l k; args = d k; out = o k }

    runs-general : (f : Forest) → any (eqb 0) (runs A f) ≡ false → RunEach (general A) f (runs A f)
    runs-general nil e = tt
    runs-general (cons t f) e = (
      run-general t (positive-state (run A t) (or-none-left (eqb 0 (run A t)) (any (eqb 0) (runs A f)) e)),
      runs-general f (or-none-right (eqb 0 (run A t)) (any (eqb 0) (runs A f)) e),
    )
      where
        positive-state : (q : ℕ) → eqb 0 q ≡ false → 1 ≤ q
        positive-state q z = let n = eqb-false 0 q z in omega arith

  pub general-recognizes : Recognizes (general A) (accepts A)
  general-recognizes t = (there, back)
    where
      there : Accepts (general A) t → accepts A t ≡ true
      there (q, r, e) = ap (accepting A) (general-run t q r).0 ∙ e

      nonzero : (q : ℕ) → run A t ≡ q → accepting A q ≡ true → 1 ≤ q
      nonzero zero z e = absurd (false≢true e)
      nonzero (suc q) z e = omega arith

      back : accepts A t ≡ true → Accepts (general A) t
      back e = (run A t, run-general t (nonzero (run A t) refl e), e)

module _ (A : Automaton) (ranged : states_in_range A ≡ true) where
  pub ranged-positive : (τ : Transition) → τ ∈ A.transitions → 1 ≤ τ.out
  ranged-positive τ i = (ranged-transition A ranged τ i).out.0

  abbrev occurs : ℕ → Bool
  occurs q = any (λ τ. elem eqb q (τ.out ∷ τ.args)) A.transitions

  state-ranged : (q : ℕ) → StateOf (general A) q → IsState A q
  state-ranged q (τ, i, inl j) = (ranged-transition A ranged τ i).args q j
  state-ranged q (τ, i, inr e) = rw e (ranged-transition A ranged τ i).out

  -- the list of the states that occur holds exactly these
  pub occurring-exact : Exactly (StateOf (general A)) (occurring A)
  occurring-exact = record {
    once = filter-distinct occurs (up_from 1 (states A)) (up_from-distinct 1 (states A));
    members = λ q. (there q, λ o. back q o);
  }
    where
      there : (q : ℕ) → q ∈ occurring A → StateOf (general A) q
      there q i =
          let (τ, j, h) = any-in (λ τ. elem eqb q (τ.out ∷ τ.args)) A.transitions
          (filter-in occurs (up_from 1 (states A)) q i).1 in
          (τ, j, side τ (elem_in eqb eqb-true eqb_same q (τ.out ∷ τ.args) h))
        where
          side : (τ : Transition) → q ∈ (τ.out ∷ τ.args) → (q ∈ τ.args) ⊎ (q ≡ τ.out)
          side τ (inl e) = inr e
          side τ (inr k) = inl k

      back : (q : ℕ) → StateOf (general A) q → q ∈ occurring A
      back q (τ, i, o) =
          in-filter occurs (up_from 1 (states A)) q (in-states A q (state-ranged q (τ, i, o)))
          (in-any (λ τ. elem eqb q (τ.out ∷ τ.args)) A.transitions τ i
          (in-elem eqb eqb-true eqb_same q (τ.out ∷ τ.args) (side o)))
        where
          side : (q ∈ τ.args) ⊎ (q ≡ τ.out) → q ∈ (τ.out ∷ τ.args)
          side (inl k) = inr k
          side (inr e) = inl e

module _ (S : Tree → Bool) (A : Automaton) (X : Canonical S A) where
  -- the canonical automaton is a deterministic automaton of its set, so the bounds of NO SMALLER are met
  pub canonical-met : Deterministic (general A) × Recognizes (general A) S ×
      ((Q : List ℕ) × HasStates (general A) Q × (length Q ≡ states A)) × HasTransitions (general A) A.transitions
  canonical-met = (
    general-deterministic A X.sorted positive,
    subst (λ (T : Tree → Bool). Recognizes (general A) T) (fun_ext (canonical-accepts S A X))
        (general-recognizes A X.sorted positive),
    (up_from 1 (states A), λ q o. in-states A q (state-ranged A ranged q o), up_from-length 1 (states A)),
    λ τ i. i,
  )
    where
      ranged : states_in_range A ≡ true
      ranged = (canonical-valid S A X).ranged

      positive : (τ : Transition) → τ ∈ A.transitions → 1 ≤ τ.out
      positive = ranged-positive A ranged

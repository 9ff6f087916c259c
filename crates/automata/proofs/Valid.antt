-- A valid automaton is canonical for what it accepts.
use mathlib.Core.Bool.{Bool, ◌&&◌, ◌||◌, true, true≢false}
use mathlib.Core.Logic.{◌⊎◌, inl, inr}
use mathlib.Core.Path.{◌∙◌, ◌≡◌, ap, refl, subst, sym}
use Prim.Native.Nat.{◌≤◌, suc, zero, ℕ}
use native.Mathlib.Omega.{arith}
use lib.Dec.{eqb, leb}
use borrow.Author.Tests.{eqb-true, le-leb, leb-true}
use Rattle.automata.specs.Accessible.{ArgsAccessible, accessible, all_accessible}
use Rattle.automata.specs.Automaton.{Automaton, Fits, IsState, Transition, accepting, accepts, run, runs}
use Rattle.automata.specs.Automaton.{states, step}
use Rattle.automata.specs.Canonical.{Canonical, Equivalent, Occurs, Subtree, each_tree, transition_of}
use Rattle.automata.specs.Coaccessible.{coaccessible}
use Rattle.automata.specs.ContextRun.{run_context}
use Rattle.automata.specs.Distinguishable.{distinguishable}
use Rattle.automata.specs.Order.{rising}
use Rattle.automata.specs.Valid.{Valid, in_range, states_in_range}
use Rattle.lists.specs.Positions.{up_from}
use Rattle.lists.specs.Tests.{◌∈◌, every}
use Rattle.trees.specs.Tree.{Forest, Tree, cons, nil, node}
use Rattle.automata.proofs.Accessible.{accessible-tree, forest}
use Rattle.automata.proofs.Coaccessible.{coaccessible-useful}
use Rattle.automata.proofs.Distinguishable.{run_fits}
use Rattle.automata.proofs.Minimal.{EquivalentStates, equivalent-indistinguishable, equivalent-states}
use Rattle.automata.proofs.Minimal.{states-equivalent}
use Rattle.automata.proofs.Order.{lookup-transition}
use Rattle.automata.proofs.Steps.{Taken, accepts-plug, run_context-zero, step-view}
use Rattle.lists.proofs.Positions.{in-up_from, up_from-in}
use Rattle.lists.proofs.Tests.{and_both, and_left, and_right, every_in, in-every, none-zero, or_cases}

-- what the range of state numbers says of one transition
pub record InRange (A : Automaton) (τ : Transition) : Type 0 where
  pub args : (q : ℕ) → q ∈ τ.args → IsState A q
  pub out : IsState A τ.out

pub in-range : (n q : ℕ) → in_range n q ≡ true → (1 ≤ q) × (q ≤ n)
in-range n q e = (leb-true 1 q (and_left _ _ e), leb-true q n (and_right (leb 1 q) _ e))

pub range-in : (n q : ℕ) → 1 ≤ q → q ≤ n → in_range n q ≡ true
range-in n q h l = and_both (le-leb 1 q h) (le-leb q n l)

pub in-states : (A : Automaton) (q : ℕ) → IsState A q → q ∈ up_from 1 (states A)
in-states A q (h, l) = in-up_from 1 (states A) q h (omega arith)

pub states-in : (A : Automaton) (q : ℕ) → q ∈ up_from 1 (states A) → IsState A q
states-in A q i = let r = up_from-in 1 (states A) q i in (r.0, omega arith)

pub ranged-transition : (A : Automaton) → states_in_range A ≡ true → (τ : Transition) → τ ∈ A.transitions → InRange A τ
ranged-transition A e τ i =
    let r = every_in (λ τ. every (in_range (states A)) τ.args && in_range (states A) τ.out) A.transitions e τ
    i in
    record {
      args = λ q j. in-range (states A) q (every_in (in_range (states A)) τ.args (and_left _ _ r) q j);
      out = in-range (states A) τ.out (and_right (every (in_range (states A)) τ.args) _ r);
    }

pub ranged-fits : (A : Automaton) → states_in_range A ≡ true → Fits A
ranged-fits A e =
    in-every (λ τ. leb τ.out (states A)) A.transitions
    (λ τ i. le-leb τ.out (states A) (ranged-transition A e τ i).out.1)

pub each-runs : (A : Automaton) (f : Forest) → runs A f ≡ each_tree (run A) f
each-runs A nil = refl
each-runs A (cons t f) = rw (each-runs A f)

-- conditions 7 to 9: each state has a tree, and so has each argument of a transition
module _ (A : Automaton) (ranged : states_in_range A ≡ true) (rises : rising A.transitions ≡ true)
    (reached : all_accessible A ≡ true) where
  pub state-tree : (q : ℕ) → IsState A q → (t : Tree) × (run A t ≡ q)
  state-tree q s =
      accessible-tree A rises q (every_in (accessible A) (up_from 1 (states A)) reached q (in-states A q s))

  pub args-accessible : (τ : Transition) → τ ∈ A.transitions → (q : ℕ) → q ∈ τ.args →
      (1 ≤ q) × ((t : Tree) × (run A t ≡ q))
  args-accessible τ i q j = let r = (ranged-transition A ranged τ i).args q j in (r.0, state-tree q r)

module _ (A : Automaton) (X : Valid A) where
  fit : Fits A
  fit = ranged-fits A X.ranged

  args : (τ : Transition) → τ ∈ A.transitions → (q : ℕ) → q ∈ τ.args → (1 ≤ q) × ((t : Tree) × (run A t ≡ q))
  args = args-accessible A X.ranged X.rises X.reached

  all : ArgsAccessible A
  all τ i q j = (args τ i q j).1

  abbrev S : Tree → Bool
  S = accepts A

  subtree-run : (t : Tree) → Subtree S t → 1 ≤ run A t
  subtree-run t (c, e) = go (run A t) refl
    where
      go : (n : ℕ) → run A t ≡ n → 1 ≤ n
      go zero z =
          absurd (true≢false (sym e ∙ accepts-plug A c t z ∙ ap (accepting A) (run_context-zero A c)))
      go (suc n) z = omega arith

  run_in : (t : Tree) → 1 ≤ run A t → run A t ∈ up_from 1 (states A)
  run_in t h = in-states A (run A t) (h, run_fits A fit t)

  run-subtree : (t : Tree) → 1 ≤ run A t → Subtree S t
  run-subtree t h =
      let (c, e) = coaccessible-useful A X.rises args (run A t)
      (every_in (coaccessible A) (up_from 1 (states A)) X.used (run A t) (run_in t h)) in
      (c, accepts-plug A c t refl ∙ e)

  joined : (t u : Tree) → Subtree S t → Subtree S u → Equivalent S t u → run A t ≡ run A u
  joined t u p q e =
      go (or_cases (eqb (run A t) (run A u)) (distinguishable A (run A t) (run A u))
      (every_in (λ q. eqb (run A t) q || distinguishable A (run A t) q) (up_from 1 (states A))
      (every_in (λ p. every (λ q. eqb p q || distinguishable A p q) (up_from 1 (states A))) (up_from 1 (states A))
      X.apart (run A t) (run_in t (subtree-run t p))) (run A u) (run_in u (subtree-run u q))))
    where
      go : (eqb (run A t) (run A u) ≡ true) ⊎ (distinguishable A (run A t) (run A u) ≡ true) → run A t ≡ run A u
      go (inl h) = eqb-true (run A t) (run A u) h
      go (inr h) =
          absurd (true≢false (sym h ∙ equivalent-indistinguishable A fit all (run A t) (run A u)
          (equivalent-states A fit all t u e)))

  occurs : (a : ℕ) (f : Forest) → Subtree S (node a f) → transition_of (run A) a f ∈ A.transitions
  occurs a f p = go (step-view A a (runs A f))
    where
      go : (step A a (runs A f) ≡ 0) ⊎ Taken A a (runs A f) → transition_of (run A) a f ∈ A.transitions
      go (inl z) = absurd (omega (arith, subtree-run (node a f) p))
      go (inr (n, (τ, i, u, v, w))) =
          let d = v ∙ each-runs A f in
          let e : τ ≡ transition_of (run A) a f = λ k. record { label = u k; args = d k; out = w k } in
          subst (λ (x : Transition). x ∈ A.transitions) e i

  only : (τ : Transition) → τ ∈ A.transitions → Occurs S (run A) τ
  only τ i = go (forest A τ.args (λ q j. all τ i q j))
    where
      go : (f : Forest) × (runs A f ≡ τ.args) → Occurs S (run A) τ
      go (f, v) =
          let z = none-zero τ.args (λ q j. (args τ i q j).0) in
          let o : run A (node τ.label f) ≡ τ.out = rw (v, z) (lookup-transition A.transitions X.rises τ i) in
          let d = sym v ∙ each-runs A f in (
            τ.label,
            f,
            run-subtree (node τ.label f) (omega (arith, o, (ranged-transition A X.ranged τ i).out.0)),
            λ k. record { label = τ.label; args = d k; out = sym o k },
          )

  pub valid-canonical : Canonical (accepts A) A
  unfolding EquivalentStates
  valid-canonical = record {
    group = run A;
    joins = joined;
    separates = λ t u p q e. states-equivalent A fit all t u (λ c. ap (λ (x : ℕ). accepting A (run_context A c x)) e);
    range = λ t p. (subtree-run t p, run_fits A fit t);
    onto = λ q h l.
        let (t, e) = state-tree A X.ranged X.rises X.reached q (h, l) in
        (t, run-subtree t (omega arith), e);
    classed = λ t p. refl;
    occurs = occurs;
    only = only;
    sorted = X.rises;
    ruled = X.ruled;
  }

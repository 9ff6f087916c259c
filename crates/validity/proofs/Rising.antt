-- Ranks that rise from arguments to outputs show that no state comes back to itself.
use Rattle.std.proofs.Common.{◌≡◌, ℕ, ◌<◌, Bool, true, ltb, leb, List, sym, ap, ◌∙◌, subst, arith, ltb-true, lt-ltb, le-leb, leb-true}
use Rattle.automata.specs.Acyclic.{Feeds, Leads, acyclic, more, once}
use Rattle.automata.specs.Automaton.{Automaton, Transition}
use Rattle.automata.specs.Numbered.{top}
use Rattle.automata.specs.Valid.{states_in_range}
use Rattle.fields.specs.Fields.{HoldsTransitionsOver}
use Rattle.fields.specs.View.{viewed}
use Rattle.lists.specs.Tests.{every}
use Rattle.table.specs.Layout.{nth_transition, out_of, transition_at, transitions_in}
use Rattle.automata.proofs.Leads.{acyclic-iff}
use Rattle.automata.proofs.NumberedPass.{top-at}
use Rattle.fields.proofs.Transitions.{transitions-every}
use Rattle.lists.proofs.Loops.{CleanFrom}
use Rattle.lists.proofs.Tests.{every_in, in-every}
use Rattle.validity.specs.Ranks.{climbing, climbs, rank_of, rises_by}
use Rattle.fields.proofs.Views.{viewed-ranged}

-- an answer about the arguments, for a bound that is the output's rank, is the answer about the transition
pub rises-at : (m s : List ℕ) (at : ℕ) {o : ℕ} {r x : Bool} → o ≡ out_of s at →
    r ≡ every (λ q. ltb (rank_of m q) (rank_of m o)) (transition_at s at).args → r ≡ x →
    rises_by (rank_of m) (transition_at s at) ≡ x
rises-at m s at e d h =
    ap (λ b. every (λ q. ltb (rank_of m q) (rank_of m b)) (transition_at s at).args) (sym e) ∙ sym d ∙ h

module _ (A : Automaton) (f : ℕ → ℕ) (rises : every (rises_by f) A.transitions ≡ true) where
  feeds-rise : {p q : ℕ} → Feeds A p q → f p < f q
  feeds-rise {p = p} (τ, i, j, e) =
      subst (λ (o : ℕ). f p < f o) e
      (ltb-true (f p) (f τ.out) (every_in (λ q. ltb (f q) (f τ.out)) τ.args
      (every_in (rises_by f) A.transitions rises τ i) p j))

  leads-rise : {p q : ℕ} → Leads A p q → f p < f q
  leads-rise (once h) = feeds-rise h
  leads-rise (more l h) = omega (arith, leads-rise l, feeds-rise h)

  rises-acyclic : states_in_range A ≡ true → acyclic A ≡ true
  rises-acyclic ranged = (acyclic-iff A ranged).1 (λ q l. omega (arith, leads-rise l))

-- the answer of condition 11 if the ranks rise
pub ranks-acyclic : (s : List ℕ) (n c : ℕ) (m : List ℕ) {r : Bool} → HoldsTransitionsOver s c n →
    r ≡ every (rises_by (rank_of m)) (transitions_in s c) → r ≡ true → (cl : List ℕ) → true ≡ acyclic (viewed cl s n c)
ranks-acyclic s n c m over e h cl =
    sym (rises-acyclic (viewed cl s n c) (rank_of m) (sym e ∙ h) (viewed-ranged cl s n c over))

-- and if every output is above its arguments, the states' own numbers do
climbs-rises : (τ : Transition) → climbs τ ≡ true → rises_by (λ q. q) τ ≡ true
climbs-rises τ e =
    let h = ltb-true (top τ.args) τ.out e in
    let all = top-at τ.args (top τ.args) ∙ le-leb (top τ.args) (top τ.args) (omega arith) in
    in-every (λ q. ltb q τ.out) τ.args (λ q i.
    let l = leb-true q (top τ.args) (every_in (λ p. leb p (top τ.args)) τ.args all q i) in
    lt-ltb q τ.out (omega arith))

pub climbing-acyclic : (s : List ℕ) (n c : ℕ) → HoldsTransitionsOver s c n → climbing (transitions_in s c) ≡ true →
    (cl : List ℕ) → true ≡ acyclic (viewed cl s n c)
climbing-acyclic s n c over e cl =
    sym (rises-acyclic (viewed cl s n c) (λ q. q)
    (in-every (rises_by (λ q. q)) (transitions_in s c) (λ τ i. climbs-rises τ (every_in climbs (transitions_in s c) e τ i)))
    (viewed-ranged cl s n c over))

-- a loop over the transitions tests whether all climb
pub climbing-start : (s : List ℕ) (c : ℕ) →
    CleanFrom (climbing (transitions_in s c)) true (λ i. climbs (nth_transition s i)) c 0
climbing-start s c = let e = transitions-every climbs s c in record { within = e.within; left = e.left }

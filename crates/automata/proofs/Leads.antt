-- Going from arguments to outputs, in the words of 01: the tests of refusal 11 say what they should.
use mathlib.Core.Bool.{Bool, ◌&&◌, ◌||◌, false, not, true, true≢false}
use mathlib.Core.List.{List}
use mathlib.Core.Logic.{◌↔◌, ◌⊎◌, inl, inr}
use mathlib.Core.Path.{◌∙◌, ◌≡◌, refl, subst, sym}
use Prim.Native.Nat.{ℕ}
use lib.Dec.{eqb}
use borrow.Author.Tests.{eq-eqb, eqb-true, not-true}
use Rattle.automata.specs.Acyclic.{Feeds, Leads, acyclic, feeds, leads, leads_rule, more, once}
use Rattle.automata.specs.Automaton.{Automaton, IsState, states}
use Rattle.automata.specs.Valid.{states_in_range}
use Rattle.lists.specs.Closure.{elem}
use Rattle.lists.specs.Positions.{Pair, eq_pair, grid, up_from}
use Rattle.lists.specs.Tests.{◌∈◌, any, every}
use Rattle.automata.proofs.Valid.{in-states, ranged-transition}
use Rattle.lists.proofs.Closure.{closed, closure-all, elem_in, in-elem}
use Rattle.lists.proofs.Positions.{eq_pair-same, eq_pair-true, in-grid}
use Rattle.lists.proofs.Tests.{and_both, and_left, and_right, any-in, eqb_same, every_in, in-any, in-every}
use Rattle.lists.proofs.Tests.{or_cases, or_left, or_right}

-- one step more at the start
pub leads-before : {A : Automaton} {p q r : ℕ} → Feeds A p q → Leads A q r → Leads A p r
leads-before f (once g) = more (once f) g
leads-before f (more l g) = more (leads-before f l) g

pub feeds-iff : (A : Automaton) (p q : ℕ) → (feeds A p q ≡ true) ↔ Feeds A p q
unfolding feeds
feeds-iff A p q = (to, from)
  where
    to : any (λ τ. eqb q τ.out && elem eqb p τ.args) A.transitions ≡ true → Feeds A p q
    to e =
        let (τ, i, h) = any-in (λ τ. eqb q τ.out && elem eqb p τ.args) A.transitions e in (
          τ,
          i,
          elem_in eqb eqb-true eqb_same p τ.args (and_right (eqb q τ.out) _ h),
          sym (eqb-true q τ.out (and_left _ _ h)),
        )

    from : Feeds A p q → any (λ τ. eqb q τ.out && elem eqb p τ.args) A.transitions ≡ true
    from (τ, i, j, e) =
        in-any (λ τ. eqb q τ.out && elem eqb p τ.args) A.transitions τ i
        (and_both (eq-eqb q τ.out (sym e)) (in-elem eqb eqb-true eqb_same p τ.args j))

module _ (A : Automaton) (ranged : states_in_range A ≡ true) where
  feeds-range : {p q : ℕ} → Feeds A p q → IsState A p × IsState A q
  feeds-range {p = p} (τ, i, j, e) =
      let r = ranged-transition A ranged τ i in (r.args p j, subst (IsState A) e r.out)

  pub leads-range : {p q : ℕ} → Leads A p q → IsState A p × IsState A q
  leads-range (once f) = feeds-range f
  leads-range (more l f) = ((leads-range l).0, (feeds-range f).1)

  abbrev ns : List ℕ
  ns = up_from 1 (states A)

  -- whatever the rule makes of the marks is marked
  leads-closed : (p q : ℕ) → IsState A p → IsState A q →
      (feeds A p q || any (λ x. leads A p x && feeds A x q) ns) ≡ true → leads A p q ≡ true
  unfolding leads leads_rule
  leads-closed p q h k e =
      closed eq_pair eq_pair-true eq_pair-same (leads_rule A) (grid ns ns) (p, q)
      (in-grid ns ns p q (in-states A p h) (in-states A q k)) e

  leads-marked : {p q : ℕ} → Leads A p q → leads A p q ≡ true
  leads-marked {p = p} {q = q} (once f) =
      let (h, k) = feeds-range f in leads-closed p q h k (or_left (feeds A p q) _ ((feeds-iff A p q).1 f))
  leads-marked {p = p} {q = q} (more {x = x} l f) =
      leads-closed p q (leads-range l).0 (feeds-range f).1
      (or_right (feeds A p q) _
      (in-any (λ x. leads A p x && feeds A x q) ns x (in-states A x (leads-range l).1)
      (and_both (leads-marked l) ((feeds-iff A x q).1 f))))

  marked-leads : (p q : ℕ) → leads A p q ≡ true → Leads A p q
  unfolding leads leads_rule
  marked-leads p q e =
      closure-all eq_pair eq_pair-true eq_pair-same (leads_rule A) (grid ns ns) (λ k. Leads A k.0 k.1) made (p, q) e
    where
      made : (m : Pair → Bool) → ((j : Pair) → m j ≡ true → Leads A j.0 j.1) → (k : Pair) →
          k ∈ grid ns ns → leads_rule A m k ≡ true → Leads A k.0 k.1
      made m ih k i e = go (or_cases (feeds A k.0 k.1) _ e)
        where
          go : (feeds A k.0 k.1 ≡ true) ⊎ (any (λ x. m (k.0, x) && feeds A x k.1) ns ≡ true) →
              Leads A k.0 k.1
          go (inl h) = once ((feeds-iff A k.0 k.1).0 h)
          go (inr h) =
              let (x, j, n) = any-in (λ x. m (k.0, x) && feeds A x k.1) ns h in
              more (ih (k.0, x) (and_left _ _ n)) ((feeds-iff A x k.1).0 (and_right (m (k.0, x)) _ n))

  pub leads-iff : (p q : ℕ) → (leads A p q ≡ true) ↔ Leads A p q
  leads-iff p q = (marked-leads p q, λ l. leads-marked l)

  -- 01, refusal 11: no state comes back to itself going from arguments to outputs
  pub acyclic-iff : (acyclic A ≡ true) ↔ ((q : ℕ) → Leads A q q → ⊥)
  unfolding acyclic
  acyclic-iff = (to, from)
    where
      to : every (λ q. not (leads A q q)) ns ≡ true → (q : ℕ) → Leads A q q → ⊥
      to e q l =
          true≢false
          (sym (leads-marked l)
          ∙ not-true (leads A q q)
          (every_in (λ q. not (leads A q q)) ns e q (in-states A q (leads-range l).0)))

      from : ((q : ℕ) → Leads A q q → ⊥) → every (λ q. not (leads A q q)) ns ≡ true
      from h = in-every (λ q. not (leads A q q)) ns (λ q i. go q (leads A q q) refl)
        where
          go : (q : ℕ) (b : Bool) → leads A q q ≡ b → not b ≡ true
          go q true e = absurd (h q (marked-leads q q e))
          go q false e = refl

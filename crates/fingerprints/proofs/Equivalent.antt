-- States that nothing separates have the same uses, if every state is useful: what a use leads to is separated from 0,
-- so the other state cannot lack it. If their uses lead to the same states they have one fingerprint.
use Rattle.std.proofs.Common.{◌≡◌, ℕ, suc, ◌+◌, ◌%◌, ◌^◌, ◌≤◌, Bool, true, false, not, ◌&&◌, eqb, ◌⊎◌, List, [], ◌∷◌, ◌++◌, sym, refl, ap, ◌∙◌, subst, ap₂, subst₂, inl, inr, arith, eqb-true}
use mathlib.Core.Bool.{beq}
use Rattle.automata.specs.Automaton.{Automaton, Transition, accepting, states}
use Rattle.automata.specs.Coaccessible.{all_coaccessible, coaccessible, coaccessible_rule}
use Rattle.automata.specs.Distinguishable.{Slot, distinguishable, distinguishable_pairs}
use Rattle.automata.specs.Distinguishable.{distinguishable_rule, pairs, slots, step_slot}
use Rattle.automata.specs.Order.{rising}
use Rattle.automata.specs.Valid.{states_in_range}
use Rattle.fingerprints.specs.Fingerprints.{fingerprint, gains, places, slot_value, spread, total, value_at}
use Rattle.lists.specs.Closure.{elem}
use Rattle.lists.specs.Positions.{eq_pair, up_from}
use Rattle.lists.specs.Tests.{◌∈◌, any, bit}
use Rattle.automata.proofs.Distinguishable.{in-slots}
use Rattle.automata.proofs.Order.{lookup-transition}
use Rattle.automata.proofs.Steps.{Taken, step-view, step-zero}
use Rattle.automata.proofs.Valid.{ranged-transition}
use Rattle.automata.proofs.Symmetry.{separated-sym}
use Rattle.fingerprints.proofs.Uses.{Used, in-uses, places-in, total-append, total-members, total-same, uses}
use Rattle.fingerprints.proofs.Uses.{uses-distinct, uses-in}
use Rattle.lists.proofs.Closure.{closed, closure-all, elem_in}
use Rattle.lists.proofs.Intervals.{every-at}
use Rattle.lists.proofs.Positions.{eq_pair-same, eq_pair-true, in-grid, in-up_from, up_from-in}
use Rattle.lists.proofs.Tests.{and_left, and_right, any-in, eqb_same, in-any, in_split, none-zero, or_cases, or_left}
use Rattle.lists.proofs.Tests.{or_right}

same_class : (a b : Bool) → (not (beq a b) ≡ true → ⊥) → a ≡ b
same_class true true d = refl
same_class true false d = absurd (d refl)
same_class false true d = absurd (d refl)
same_class false false d = refl

module _ (A : Automaton) (ranged : states_in_range A ≡ true) (rises : rising A.transitions ≡ true) where
  by-rule : (p q : ℕ) → p ≤ states A → q ≤ states A →
      distinguishable_rule A (λ j. elem eq_pair j (distinguishable_pairs A)) (p, q) ≡ true → distinguishable A p q ≡ true
  by-rule p q h l e =
      closed eq_pair eq_pair-true eq_pair-same (distinguishable_rule A) (pairs A) (p, q)
      (in-grid (up_from 0 (suc (states A))) (up_from 0 (suc (states A))) p q
      (in-up_from 0 (suc (states A)) p (omega arith) (omega arith))
      (in-up_from 0 (suc (states A)) q (omega arith) (omega arith))) e

  -- a slot that is used takes the state to the transition's output
  pub used_step : (q : ℕ) (z : Slot) (u : Used A.transitions q z) → step_slot A z q ≡ u.0.out
  used_step q z (τ, i, (e, f)) =
      let n = none-zero τ.args (λ p j. ((ranged-transition A ranged τ i).args p j).0) in
      rw (e, ← f, n) (lookup-transition A.transitions rises τ i)

  -- states that a used slot takes to separated states are separated
  pub by-use : (x : ℕ) (z : Slot) → Used A.transitions x z → (p q : ℕ) → p ≤ states A → q ≤ states A →
      distinguishable A (step_slot A z p) (step_slot A z q) ≡ true → distinguishable A p q ≡ true
  by-use x z (τ, i, (e, f)) p q h l d =
      by-rule p q h l
      (or_right (not (beq (accepting A p) (accepting A q))) _
      (in-any (λ s. distinguishable A (step_slot A s p) (step_slot A s q)) (slots A.transitions) z
      (subst (λ (a : ℕ). ◌∈◌ {A = Slot} (record { label = a; before = z.before; after = z.after })
      (slots A.transitions))
      (sym e) (in-slots A.transitions τ z.before x z.after i f)) d))

  pub useful-by : (q : ℕ) → 1 ≤ q → q ≤ states A → coaccessible_rule A (coaccessible A) q ≡ true →
      coaccessible A q ≡ true
  useful-by q h l e =
      closed eqb eqb-true eqb_same (coaccessible_rule A) (up_from 1 (states A)) q
      (in-up_from 1 (states A) q h (omega arith)) e

  -- a useful state is separated from 0
  pub useful-separated : (q : ℕ) → coaccessible A q ≡ true → distinguishable A q 0 ≡ true
  useful-separated = closure-all eqb eqb-true eqb_same (coaccessible_rule A) (up_from 1 (states A)) Separated made
    where
      Separated : ℕ → Type 0
      Separated x = distinguishable A x 0 ≡ true

      made : (m : ℕ → Bool) → ((j : ℕ) → m j ≡ true → Separated j) → (k : ℕ) → k ∈ up_from 1 (states A) →
          coaccessible_rule A m k ≡ true → Separated k
      made m ih k i e = go (or_cases (accepting A k) _ e)
        where
          small : k ≤ states A
          small = omega (arith, up_from-in 1 (states A) k i)

          used : (τ : Transition) × (τ ∈ A.transitions) × ((m τ.out && elem eqb k τ.args) ≡ true) →
              distinguishable A k 0 ≡ true
          used (τ, j, h) =
              through (in_split τ.args k (elem_in eqb eqb-true eqb_same k τ.args (and_right (m τ.out) _ h)))
            where
              through : (l : List ℕ) × (r : List ℕ) × (τ.args ≡ l ++ (k ∷ r)) → distinguishable A k 0 ≡ true
              through (b, c, f) =
                  let z : Slot = record { label = τ.label; before = b; after = c } in
                  let u : Used A.transitions k z = (τ, j, (refl, f)) in
                  by-use k z u k 0 small (omega arith)
                  (subst₂ (λ (x y : ℕ). distinguishable A x y ≡ true) (sym (used_step k z u))
                  (sym (step-zero A τ.label b c)) (ih τ.out (and_left _ _ h)))

          go : (accepting A k ≡ true) ⊎ (any (λ τ. m τ.out && elem eqb k τ.args) A.transitions ≡ true) →
              distinguishable A k 0 ≡ true
          go (inl h) =
              by-rule k 0 small (omega arith)
              (or_left (not (beq (accepting A k) (accepting A 0))) _ (ap (λ (b : Bool). not (beq b false)) h))
          go (inr h) = used (any-in (λ τ. m τ.out && elem eqb k τ.args) A.transitions h)

  -- what a slot gives to a state
  abbrev step_value : ℕ → Slot → ℕ
  step_value q z = slot_value z (spread (step_slot A z q))

  gains-uses : (q : ℕ) (τs : List Transition) → ((τ : Transition) → τ ∈ τs → τ ∈ A.transitions) →
      gains τs q ≡ total (uses τs q) (step_value q)
  gains-uses q [] s = refl
  gains-uses q (τ ∷ τs) s =
      ap₂ (λ (a b : ℕ). a + b)
      (total-same (places τ.args [] τ.label q) (value_at (spread τ.out)) (step_value q)
      (λ z i. ap (λ (x : ℕ). slot_value z (spread x))
      (sym (used_step q z (τ, s τ (inl refl), (places-in τ.args [] τ.label q z i).0)))))
      (gains-uses q τs (λ υ i. s υ (inr i)))
      ∙ sym (total-append (places τ.args [] τ.label q) (uses τs q) (step_value q))

  module _ (useful : all_coaccessible A ≡ true) where
    -- a use of p is one of q
    pub use-too : (p q : ℕ) → p ≤ states A → q ≤ states A → (distinguishable A p q ≡ true → ⊥) → (z : Slot) →
        z ∈ uses A.transitions p → z ∈ uses A.transitions q
    use-too p q k l d z i = go (step-view A z.label (z.before ++ (q ∷ z.after)))
      where
        u : Used A.transitions p z
        u = uses-in A.transitions p z i

        leads : coaccessible A (step_slot A z p) ≡ true
        leads =
            let o = (ranged-transition A ranged u.0 u.1).out in
            ap (coaccessible A) (used_step p z u)
            ∙ every-at (coaccessible A) 1 (states A) useful u.0.out o.0 (omega (arith, o.1))

        go : (step_slot A z q ≡ 0) ⊎ Taken A z.label (z.before ++ (q ∷ z.after)) → z ∈ uses A.transitions q
        go (inl o) =
            absurd (d (by-use p z u p q k l
            (subst (λ (x : ℕ). distinguishable A (step_slot A z p) x ≡ true) (sym o)
            (useful-separated (step_slot A z p) leads))))
        go (inr (n, (υ, j, a, b, o))) = in-uses A.transitions q z (υ, j, (sym a, b))

    -- states that nothing separates, and whose uses lead to the same states
    module _ (p q : ℕ) (k : p ≤ states A) (l : q ≤ states A) (d : distinguishable A p q ≡ true → ⊥)
        (near : (z : Slot) → z ∈ uses A.transitions p → step_slot A z p ≡ step_slot A z q) where
      equal-gains : gains A.transitions p ≡ gains A.transitions q
      equal-gains =
          gains-uses p A.transitions (λ τ i. i)
          ∙ total-same (uses A.transitions p) (step_value p) (step_value q)
          (λ z i. ap (λ (x : ℕ). slot_value z (spread x)) (near z i))
          ∙ total-members (uses A.transitions p) (uses A.transitions q) (step_value q)
          (uses-distinct A.transitions p rises) (uses-distinct A.transitions q rises)
          (use-too p q k l d) (use-too q p l k (λ e. d (separated-sym A q p e)))
          ∙ sym (gains-uses q A.transitions (λ τ i. i))

      equal-class : accepting A p ≡ accepting A q
      equal-class = same_class (accepting A p) (accepting A q) (λ e. d (by-rule p q k l (or_left _ _ e)))

      pub equal-fingerprint : fingerprint A p ≡ fingerprint A q
      unfolding fingerprint
      equal-fingerprint = ap₂ (λ (c : Bool) (g : ℕ). (bit c + g) % 2 ^ 64) equal-class equal-gains

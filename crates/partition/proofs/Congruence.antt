-- Parts that no slot breaks are the classes of equivalent states: condition 12 holds exactly if every state leads.
use mathlib.Core.Bool.{Bool, beq, ◌||◌, false, false≢true, not, true}
use mathlib.Core.List.{List, ◌++◌, ◌∷◌}
use mathlib.Core.Logic.{◌≢◌, ◌⊎◌, inl, inr}
use mathlib.Core.Path.{◌∙◌, ◌≡◌, ap, refl, subst, sym}
use Prim.Native.Nat.{◌*◌, ◌<◌, ◌≤◌, suc, ℕ}
use native.Mathlib.Omega.{arith}
use lib.Dec.{eqb}
use borrow.Author.Tests.{eq-eqb, eqb-false, eqb-true}
use Rattle.automata.specs.Automaton.{Automaton, accepting, states}
use Rattle.automata.specs.Distinguishable.{Slot, all_distinguishable, distinguishable, distinguishable_rule, pairs}
use Rattle.automata.specs.Distinguishable.{slots, step_slot}
use Rattle.fields.specs.Fields.{HoldsTransitionsOver}
use Rattle.fields.specs.View.{viewed}
use Rattle.format.specs.Format.{transition_bytes}
use Rattle.lists.specs.Positions.{Pair, eq_pair, up_from}
use Rattle.lists.specs.Tests.{◌∈◌, any, every}
use Rattle.sorted.specs.Steps.{slot_at}
use Rattle.table.specs.Layout.{arg_of, arity_of, out_of, transitions_in}
use Rattle.partition.specs.Parts.{Grouped, Parts, all_lead, leads, part_of}
use Rattle.partition.specs.Splits.{Stable, part_to}
use Rattle.automata.proofs.Distinguishable.{differ}
use Rattle.automata.proofs.Steps.{Taken, step-view}
use Rattle.fields.proofs.Views.{viewed-states}
use Rattle.lists.proofs.Closure.{closure-all}
use Rattle.lists.proofs.Distinct.{grid-in}
use Rattle.lists.proofs.Intervals.{at_every, every-at}
use Rattle.lists.proofs.Positions.{eq_pair-same, eq_pair-true, up_from-in}
use Rattle.lists.proofs.Tests.{any-in, or_cases, or_left, or_right, same_test}
use Rattle.sorted.proofs.Stepping.{taken-through}

module _ (cl s : List ℕ) (n c : ℕ) (over : HoldsTransitionsOver s c n) {m : List ℕ} (g : Grouped n m)
    (parts : Parts (viewed cl s n c) m)
    (stable : (i : ℕ) → i < c → (k : ℕ) → k < arity_of s (transition_bytes * i) → Stable s n c i k m) where
  abbrev A : Automaton
  A = viewed cl s n c

  many : states A ≡ n
  many = viewed-states cl s n c

  -- the leader stands in the slot too, and there all of its part agree
  agrees_at : (i k q : ℕ) → i < c → k < arity_of s (transition_bytes * i) → q ≤ n →
      part_of m q ≡ part_of m (arg_of s (transition_bytes * i) k) →
      part_to s c m i k q ≡ part_of m (out_of s (transition_bytes * i))
  agrees_at i k q h l b e = go (step-view A z.label (z.before ++ (lead ∷ z.after)))
    where
      z : Slot
      z = slot_at s (transition_bytes * i) k

      lead : ℕ
      lead = part_of m (arg_of s (transition_bytes * i) k)

      own : part_of m lead ≡ lead
      own = g.own (arg_of s (transition_bytes * i) k) (over.arg-state i k h l)

      go : (step_slot A z lead ≡ 0) ⊎ Taken A z.label (z.before ++ (lead ∷ z.after)) →
          part_to s c m i k q ≡ part_of m (out_of s (transition_bytes * i))
      go (inl x) =
          let y = sym (stable i h k l).leader ∙ ap (part_of m) x ∙ g.none in
          absurd (let o = g.some (out_of s (transition_bytes * i)) (over.out_some i h) (over.out-state i h) in
          omega (arith, y, o))
      go (inr u) =
          let (j, h', k', l', f, a, o) = taken-through cl s n c z lead u in
          let d = sym own ∙ ap (part_of m) (sym a) in
          subst (λ (y : Slot). part_of m (step_slot A y q) ≡ part_of m (out_of s (transition_bytes * i))) f
          ((stable j h' k' l').members (a ∙ d) q b (e ∙ d) ∙ ap (part_of m) o ∙ (stable i h k l).leader)

  -- a slot takes states of one part to one part
  taken-agrees : (z : Slot) (p q : ℕ) → q ≤ n → part_of m p ≡ part_of m q →
      Taken A z.label (z.before ++ (p ∷ z.after)) → part_of m (step_slot A z q) ≡ part_of m (step_slot A z p)
  taken-agrees z p q l e u =
      let (i, a, k, b, d, f, o) = taken-through cl s n c z p u in
      subst (λ (y : Slot). part_of m (step_slot A y q) ≡ part_of m (step_slot A z p)) d
      (agrees_at i k q a b l (sym e ∙ ap (part_of m) (sym f)) ∙ ap (part_of m) o)

  slot-agrees : (z : Slot) (p q : ℕ) → p ≤ n → q ≤ n → part_of m p ≡ part_of m q →
      part_of m (step_slot A z p) ≡ part_of m (step_slot A z q)
  slot-agrees z p q k l e =
      go (step-view A z.label (z.before ++ (p ∷ z.after))) (step-view A z.label (z.before ++ (q ∷ z.after)))
    where
      go : (step_slot A z p ≡ 0) ⊎ Taken A z.label (z.before ++ (p ∷ z.after)) →
          (step_slot A z q ≡ 0) ⊎ Taken A z.label (z.before ++ (q ∷ z.after)) →
          part_of m (step_slot A z p) ≡ part_of m (step_slot A z q)
      go (inr u) y = sym (taken-agrees z p q l e u)
      go (inl x) (inr u) = taken-agrees z q p k (sym e) u
      go (inl x) (inl y) = ap (part_of m) (x ∙ sym y)

  parts-apart : (p q : ℕ) → distinguishable A p q ≡ true → part_of m p ≢ part_of m q
  parts-apart p q e = closure-all eq_pair eq_pair-true eq_pair-same (distinguishable_rule A) (pairs A) Apart step (p, q) e
    where
      Apart : Pair → Type 0
      Apart k = part_of m k.0 ≢ part_of m k.1

      step : (r : Pair → Bool) → ((j : Pair) → r j ≡ true → Apart j) → (k : Pair) → k ∈ pairs A →
          distinguishable_rule A r k ≡ true → Apart k
      step r ih k i e same = go (or_cases (not (beq (accepting A k.0) (accepting A k.1))) _ e)
        where
          small : (k.0 ≤ states A) × (k.1 ≤ states A)
          small =
              let (x, y) = grid-in (up_from 0 (suc (states A))) (up_from 0 (suc (states A))) k i in
              let a = (up_from-in 0 (suc (states A)) k.0 x).1 in
              let b = (up_from-in 0 (suc (states A)) k.1 y).1 in
              (omega (arith, a), omega (arith, b))

          go : (not (beq (accepting A k.0) (accepting A k.1)) ≡ true) ⊎
              (any (λ z. r (step_slot A z k.0, step_slot A z k.1)) (slots (transitions_in s c)) ≡ true) → ⊥
          go (inl d) =
              differ (accepting A k.0) (accepting A k.1) d
              (parts.class k.0 k.1 small.0 small.1 same)
          go (inr d) =
              let (z, j, f) = any-in (λ z. r (step_slot A z k.0, step_slot A z k.1)) (slots (transitions_in s c))
              d in
              ih (step_slot A z k.0, step_slot A z k.1) f
              (slot-agrees z k.0 k.1 (omega (arith, many, small.0)) (omega (arith, many, small.1)) same)

  -- ---- condition 12

  lead-apart : all_lead m n ≡ true → all_distinguishable A ≡ true
  unfolding all_lead
  lead-apart all =
      at_every (λ p. every (λ q. eqb p q || distinguishable A p q) (up_from 1 (states A))) 1 (states A)
      (λ p a b. at_every (λ q. eqb p q || distinguishable A p q) 1 (states A)
      (λ q x y. go p q a (omega arith) x (omega arith) (distinguishable A p q) refl))
    where
      own : (q : ℕ) → 1 ≤ q → q ≤ states A → part_of m q ≡ q
      own q a b = eqb-true (part_of m q) q (every-at (leads m) 1 n all q a (omega (arith, many)))

      go : (p q : ℕ) → 1 ≤ p → p ≤ states A → 1 ≤ q → q ≤ states A → (t : Bool) → distinguishable A p q ≡ t →
          (eqb p q || t) ≡ true
      go p q a b x y true e = or_right (eqb p q) true refl
      go p q a b x y false e =
          or_left (eqb p q) false (eq-eqb p q
          (sym (own p a b) ∙ parts.sound p q b y (λ w. false≢true (sym e ∙ w)) ∙ own q x y))

  apart-lead : all_distinguishable A ≡ true → all_lead m n ≡ true
  unfolding all_lead
  apart-lead all = at_every (leads m) 1 n (λ q a b. go q a (omega arith) (leads m q) refl)
    where
      apart : (p q : ℕ) → 1 ≤ p → p ≤ n → 1 ≤ q → q ≤ n → p ≢ q → distinguishable A p q ≡ true
      apart p q a b x y ne =
          side (or_cases (eqb p q) _ (every-at (λ r. eqb p r || distinguishable A p r) 1 (states A)
          (every-at (λ o. every (λ r. eqb o r || distinguishable A o r) (up_from 1 (states A))) 1 (states A) all p
          a (omega (arith, many))) q x (omega (arith, many))))
        where
          side : (eqb p q ≡ true) ⊎ (distinguishable A p q ≡ true) → distinguishable A p q ≡ true
          side (inl f) = absurd (ne (eqb-true p q f))
          side (inr f) = f

      go : (q : ℕ) → 1 ≤ q → q ≤ n → (t : Bool) → leads m q ≡ t → t ≡ true
      go q a b true e = refl
      go q a b false e =
          absurd (parts-apart (part_of m q) q
          (apart (part_of m q) q (g.some q a b) (omega (arith, g.below q b)) a b (eqb-false (part_of m q) q e))
          (g.own q b))

  pub parts-exact : all_lead m n ≡ all_distinguishable A
  parts-exact = same_test (all_lead m n) (all_distinguishable A) lead-apart apart-lead

-- If no state comes back to itself different fingerprints are enough: from the last states on, states that nothing
-- separates have uses that lead to the same states, and so one fingerprint. Nor is a search needed for useful states.
use Rattle.std.proofs.Common.{◌≡◌, ℕ, zero, suc, ◌<◌, ◌≤◌, Bool, true, false, ◌&&◌, ◌||◌, eqb, ◌⊎◌, List, ◌∷◌, length, sym, refl, ◌∙◌, subst, inl, inr, arith, eq-eqb, eqb-true}
use mathlib.Core.Bool.{false≢true}
use borrow.Author.Tests.{eqb-false}
use Rattle.automata.specs.Acyclic.{Feeds, acyclic, leads, once}
use Rattle.automata.specs.Automaton.{Automaton, Transition, accepting, states}
use Rattle.automata.specs.Coaccessible.{all_coaccessible, coaccessible}
use Rattle.automata.specs.Distinguishable.{Slot, all_distinguishable, distinguishable, step_slot}
use Rattle.automata.specs.Order.{rising}
use Rattle.automata.specs.Valid.{states_in_range}
use Rattle.fingerprints.specs.Fingerprints.{Fingerprinted, all_differ, print_of}
use Rattle.lists.specs.Closure.{elem}
use Rattle.lists.specs.Positions.{up_from}
use Rattle.lists.specs.Tests.{◌∈◌, every, filter}
use Rattle.automata.proofs.Leads.{acyclic-iff, leads-before, leads-iff}
use Rattle.automata.proofs.Valid.{ranged-transition}
use Rattle.fingerprints.proofs.Equivalent.{by-use, equal-fingerprint, use-too, used_step, useful-by}
use Rattle.fingerprints.proofs.AllDiffer.{differ-apart}
use Rattle.fingerprints.proofs.Uses.{uses, uses-in}
use Rattle.lists.proofs.Closure.{in-elem}
use Rattle.lists.proofs.Intervals.{at_every}
use Rattle.lists.proofs.Positions.{in-up_from}
use Rattle.lists.proofs.Tests.{and_both, eqb_same, filter-in, filter-weaker, in-any, in_append_right, in-filter}
use Rattle.lists.proofs.Tests.{or_left, or_right}

-- some transition has q as an argument
abbrev pub Argument : List Transition → ℕ → Type 0
Argument τs q = (τ : Transition) × (τ ∈ τs) × (q ∈ τ.args)

module _ (A : Automaton) (ranged : states_in_range A ≡ true) (rises : rising A.transitions ≡ true)
    (ac : acyclic A ≡ true) where
  -- the number of states that p leads to
  height : ℕ → ℕ
  height p = length (filter (leads A p) (up_from 1 (states A)))

  height-less : (p o : ℕ) → 1 ≤ o → o ≤ states A → Feeds A p o → height o < height p
  unfolding height
  height-less p o a b f =
      go (filter-weaker (leads A o) (leads A p) (up_from 1 (states A))
      (λ x i e. (leads-iff A ranged p x).1 (leads-before f ((leads-iff A ranged o x).0 e))))
    where
      go : (filter (leads A o) (up_from 1 (states A)) ≡ filter (leads A p) (up_from 1 (states A))) ⊎
          (length (filter (leads A o) (up_from 1 (states A))) < length (filter (leads A p) (up_from 1 (states A)))) →
          length (filter (leads A o) (up_from 1 (states A))) < length (filter (leads A p) (up_from 1 (states A)))
      go (inr h) = h
      go (inl e) =
          let there = in-filter (leads A p) (up_from 1 (states A)) o (in-up_from 1 (states A) o a (omega arith))
          ((leads-iff A ranged p o).1 (once f)) in
          let back = filter-in (leads A o) (up_from 1 (states A)) o (subst (λ (xs : List ℕ). o ∈ xs) (sym e) there) in
          absurd ((acyclic-iff A ranged).0 ac o ((leads-iff A ranged o o).0 back.1))

  -- states that are accepting or arguments are all useful: some state on the way is accepting
  module _ (some : (q : ℕ) → 1 ≤ q → q ≤ states A → (accepting A q ≡ true) ⊎ Argument A.transitions q) where
    useful-below : (k p : ℕ) → height p < k → 1 ≤ p → p ≤ states A → coaccessible A p ≡ true
    useful-below zero p r a b = absurd (omega arith)
    useful-below (suc k) p r a b = go (some p a b) (λ o l c d. useful-below k o l c d)
      where
        go : (accepting A p ≡ true) ⊎ Argument A.transitions p →
            ((o : ℕ) → height o < k → 1 ≤ o → o ≤ states A → coaccessible A o ≡ true) → coaccessible A p ≡ true
        go (inl e) ih = useful-by A ranged rises p a b (or_left (accepting A p) _ e)
        go (inr (τ, i, j)) ih =
            let o = (ranged-transition A ranged τ i).out in
            let l = height-less p τ.out o.0 o.1 (τ, i, j, refl) in
            useful-by A ranged rises p a b
            (or_right (accepting A p) _
            (in-any (λ υ. coaccessible A υ.out && elem eqb p υ.args) A.transitions τ i
            (and_both (ih τ.out (omega arith) o.0 o.1) (in-elem eqb eqb-true eqb_same p τ.args j))))

    pub all-useful-by-uses : all_coaccessible A ≡ true
    all-useful-by-uses =
        at_every (coaccessible A) 1 (states A)
        (λ q a b. useful-below (suc (height q)) q (omega arith) a (omega arith))

  module _ (useful : all_coaccessible A ≡ true) where
    -- two states that nothing separates and whose uses lead to the same states are one
    abbrev pub Free : Type 0
    Free = (p q : ℕ) → 1 ≤ p → p ≤ states A → 1 ≤ q → q ≤ states A → (distinguishable A p q ≡ true → ⊥) →
        ((z : Slot) → z ∈ uses A.transitions p → step_slot A z p ≡ step_slot A z q) → p ≡ q

    module _ (free : Free) where
      -- everything but x itself is separated from x
      abbrev Single : ℕ → Type 0
      Single x = (y : ℕ) → 1 ≤ x → x ≤ states A → 1 ≤ y → y ≤ states A → (distinguishable A x y ≡ true → ⊥) → x ≡ y

      single_step : (p : ℕ) → ((o : ℕ) → 1 ≤ o → o ≤ states A → Feeds A p o → Single o) → Single p
      single_step p ih q a b c e d = free p q a b c e d near
        where
          near : (z : Slot) → z ∈ uses A.transitions p → step_slot A z p ≡ step_slot A z q
          near z i =
              let u = uses-in A.transitions p z i in
              let v = uses-in A.transitions q z (use-too A ranged rises useful p q b e d z i) in
              let x = used_step A ranged rises p z u in
              let y = used_step A ranged rises q z v in
              let s = (ranged-transition A ranged u.0 u.1).out in
              let t = (ranged-transition A ranged v.0 v.1).out in
              let j : p ∈ u.0.args =
              subst (λ (qs : List ℕ). p ∈ qs) (sym u.2.1) (in_append_right z.before (p ∷ z.after) p
              (inl refl)) in
              ih (step_slot A z p) (omega (arith, x, s.0)) (omega (arith, x, s.1)) (u.0, u.1, j, sym x)
              (step_slot A z q) (omega (arith, x, s.0)) (omega (arith, x, s.1)) (omega (arith, y, t.0))
              (omega (arith, y, t.1)) (λ w. d (by-use A ranged rises p z u p q b e w))

      single : (k p : ℕ) → height p < k → Single p
      single zero p r = absurd (omega arith)
      single (suc k) p r =
          single_step p (λ o a b f. single k o (let l = height-less p o a b f in omega arith))

      pub free-separated : all_distinguishable A ≡ true
      free-separated =
          at_every (λ p. every (λ q. eqb p q || distinguishable A p q) (up_from 1 (states A))) 1 (states A)
          (λ p a b. at_every (λ q. eqb p q || distinguishable A p q) 1 (states A)
          (λ q c d. go p q a (omega arith) c (omega arith) (distinguishable A p q) refl))
        where
          go : (p q : ℕ) → 1 ≤ p → p ≤ states A → 1 ≤ q → q ≤ states A → (t : Bool) → distinguishable A p q ≡ t →
              (eqb p q || t) ≡ true
          go p q a b c d true e = or_right (eqb p q) true refl
          go p q a b c d false e =
              or_left (eqb p q) false (eq-eqb p q
              (single (suc (height p)) p (omega arith) q a b c d (λ w. false≢true (sym e ∙ w))))

    module _ (m : List ℕ) (made : Fingerprinted A m) where
      -- such states have one fingerprint
      pub same-print : (p q : ℕ) → p ≤ states A → q ≤ states A → (distinguishable A p q ≡ true → ⊥) →
          ((z : Slot) → z ∈ uses A.transitions p → step_slot A z p ≡ step_slot A z q) → print_of m p ≡ print_of m q
      same-print p q b e d near =
          made.each p b ∙ equal-fingerprint A ranged rises useful p q b e d near ∙ sym (made.each q e)

      pub differ-separated : all_differ m (states A) ≡ true → all_distinguishable A ≡ true
      differ-separated all =
          free-separated (λ p q a b c e d near. go p q a b c e (same-print p q b e d near) (eqb p q) refl)
        where
          go : (p q : ℕ) → 1 ≤ p → p ≤ states A → 1 ≤ q → q ≤ states A → print_of m p ≡ print_of m q → (t : Bool) →
              eqb p q ≡ t → p ≡ q
          go p q a b c e g true f = eqb-true p q f
          go p q a b c e g false f = absurd (differ-apart m (states A) all p q a b c e (eqb-false p q f) g)

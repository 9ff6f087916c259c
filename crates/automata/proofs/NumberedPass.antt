-- Condition 13 in one pass over the transitions (01: numbering): a transition gives its output a number if
-- every state strictly between its greatest argument and its output has one already. It implies condition 9.
use mathlib.Core.Bool.{Bool, ◌&&◌, cond, false, true, true≢false}
use mathlib.Core.List.{List, [], ◌++◌, ◌∷◌}
use mathlib.Core.Logic.{◌≢◌, inl, inr}
use mathlib.Core.Path.{◌∙◌, ◌≡◌, ap, refl, sym}
use Prim.Native.Nat.{◌+◌, ◌<◌, ◌≤◌, suc, zero, ℕ}
use native.Mathlib.Omega.{arith}
use lib.Dec.{eqb, leb}
use borrow.Author.Tests.{eq-eqb, eqb-false, eqb-true, le-leb, leb-true, lt-ltb, ltb-true}
use Rattle.automata.specs.Accessible.{accessible, accessible_rule, all_accessible}
use Rattle.automata.specs.Automaton.{Automaton, Transition, states}
use Rattle.automata.specs.Numbered.{Passed, first_open, numbered, opens, top}
use Rattle.automata.specs.Valid.{states_in_range}
use Rattle.lists.specs.Positions.{up_from}
use Rattle.lists.specs.Tests.{◌∈◌, every}
use Rattle.automata.proofs.Valid.{ranged-transition}
use Rattle.lists.proofs.Closure.{closed}
use Rattle.lists.proofs.Intervals.{at_every, every-at}
use Rattle.lists.proofs.Positions.{in-up_from}
use Rattle.lists.proofs.Tests.{and_both, and_left, and_right, eqb_same, every_in, in-any, in-every, leb-max}

pub top-at : (qs : List ℕ) (k : ℕ) → every (λ q. leb q k) qs ≡ leb (top qs) k
top-at [] k = sym (le-leb 0 k (omega arith))
top-at (q ∷ qs) k = ap (λ b. leb q k && b) (top-at qs k) ∙ sym (leb-max q (top qs) k)

-- a transition opens k if its greatest argument is at most k and its output above
pub opens-between : (k : ℕ) (τ : Transition) → top τ.args ≤ k → k < τ.out → opens k τ ≡ true
opens-between k τ h l = and_both (top-at τ.args k ∙ le-leb (top τ.args) k h) (lt-ltb k τ.out l)

pub opens-low : (k : ℕ) (τ : Transition) → opens k τ ≡ true → top τ.args ≤ k
opens-low k τ e = leb-true (top τ.args) k (sym (top-at τ.args k) ∙ and_left _ _ e)

pub opens-high : (k : ℕ) (τ : Transition) → opens k τ ≡ true → k < τ.out
opens-high k τ e = ltb-true k τ.out (and_right (every (λ q. leb q k) τ.args) _ e)

-- the first of two lists that has a transition that opens decides
pub first_open-kept : (k j : ℕ) (xs ys : List Transition) → first_open k xs ≡ suc j → first_open k (xs ++ ys) ≡ suc j
first_open-kept k j [] ys e = absurd (omega arith)
first_open-kept k j (τ ∷ xs) ys e = go (first_open-kept k j xs ys) (opens k τ) e
  where
    go : (first_open k xs ≡ suc j → first_open k (xs ++ ys) ≡ suc j) → (b : Bool) →
        cond b τ.out (first_open k xs) ≡ suc j → cond b τ.out (first_open k (xs ++ ys)) ≡ suc j
    go ih true e = e
    go ih false e = ih e

pub first_open-none : (k : ℕ) (xs ys : List Transition) → first_open k xs ≡ 0 → first_open k (xs ++ ys) ≡ first_open k ys
first_open-none k [] ys e = refl
first_open-none k (τ ∷ xs) ys e = go (first_open-none k xs ys) (opens k τ) refl e
  where
    go : (first_open k xs ≡ 0 → first_open k (xs ++ ys) ≡ first_open k ys) → (b : Bool) → opens k τ ≡ b →
        cond b τ.out (first_open k xs) ≡ 0 → cond b τ.out (first_open k (xs ++ ys)) ≡ first_open k ys
    go ih true o e = absurd (omega (arith, opens-high k τ o))
    go ih false o e = ih e

-- the transition that gives the number k + 1
pub first_open-in : (k : ℕ) (τs : List Transition) → first_open k τs ≡ suc k →
    (τ : Transition) × (τ ∈ τs) × (opens k τ ≡ true) × (τ.out ≡ suc k)
first_open-in k [] e = absurd (omega arith)
first_open-in k (τ ∷ τs) e = go (first_open-in k τs) (opens k τ) refl e
  where
    go : (first_open k τs ≡ suc k → (υ : Transition) × (υ ∈ τs) × (opens k υ ≡ true) × (υ.out ≡ suc k)) →
        (b : Bool) → opens k τ ≡ b → cond b τ.out (first_open k τs) ≡ suc k →
        (υ : Transition) × (υ ∈ (τ ∷ τs)) × (opens k υ ≡ true) × (υ.out ≡ suc k)
    go ih true o e = (τ, inl refl, o, e)
    go ih false o e = let (υ, i, p, q) = ih e in (υ, inr i, p, q)

module _ {τs : List Transition} {seen : ℕ → Bool} (passed : Passed τs seen) where
  pub passed-seen : (k : ℕ) → seen (suc k) ≡ true → first_open k τs ≡ suc k
  passed-seen k e = rw e at (passed.each k)

  pub passed-unseen : (k : ℕ) → seen (suc k) ≡ false → first_open k τs ≡ 0
  passed-unseen k e = rw e at (passed.each k)

  module _ (τ : Transition) where
    -- whatever is seen after the transition holds of each number, if it holds where this one decides
    next : (seen' : ℕ → Bool) → ((k : ℕ) → seen (suc k) ≡ true → seen' (suc k) ≡ true) →
        ((k : ℕ) → seen (suc k) ≡ false → cond (opens k τ) τ.out 0 ≡ cond (seen' (suc k)) (suc k) 0) →
        Passed (τs ++ (τ ∷ [])) seen'
    next seen' kept new = record { each = λ k. go k (seen (suc k)) refl }
      where
        go : (k : ℕ) (b : Bool) → seen (suc k) ≡ b → first_open k (τs ++ (τ ∷ [])) ≡ cond (seen' (suc k)) (suc k) 0
        go k true e = rw (kept k e) (first_open-kept k k τs (τ ∷ []) (passed-seen k e))
        go k false e = first_open-none k τs (τ ∷ []) (passed-unseen k e) ∙ new k e

    -- a transition whose output is not above its arguments opens nothing
    pub passed-low : τ.out ≤ top τ.args → Passed (τs ++ (τ ∷ [])) seen
    passed-low h = next seen (λ k e. e) (λ k e. go k e (opens k τ) refl)
      where
        go : (k : ℕ) → seen (suc k) ≡ false → (b : Bool) → opens k τ ≡ b →
            cond b τ.out 0 ≡ cond (seen (suc k)) (suc k) 0
        go k e true o = absurd (omega (arith, opens-low k τ o, opens-high k τ o))
        go k e false o = rw e

    -- if all between are seen, the output is seen
    pub passed-next : (seen' : ℕ → Bool) → top τ.args < τ.out →
        ((j : ℕ) → top τ.args < j → j < τ.out → seen j ≡ true) → seen' τ.out ≡ true →
        ((j : ℕ) → j ≢ τ.out → seen' j ≡ seen j) → Passed (τs ++ (τ ∷ [])) seen'
    passed-next seen' h between here there =
        next seen' (λ k e. kept k e (eqb (suc k) τ.out) refl) (λ k e. new k e (opens k τ) refl)
      where
        kept : (k : ℕ) → seen (suc k) ≡ true → (b : Bool) → eqb (suc k) τ.out ≡ b → seen' (suc k) ≡ true
        kept k e true d = ap seen' (eqb-true (suc k) τ.out d) ∙ here
        kept k e false d = there (suc k) (eqb-false (suc k) τ.out d) ∙ e

        new : (k : ℕ) → seen (suc k) ≡ false → (b : Bool) → opens k τ ≡ b →
            cond b τ.out 0 ≡ cond (seen' (suc k)) (suc k) 0
        new k e true o = last k e (eqb (suc k) τ.out) refl (opens-low k τ o) (opens-high k τ o)
          where
            last : (k : ℕ) → seen (suc k) ≡ false → (b : Bool) → eqb (suc k) τ.out ≡ b → top τ.args ≤ k →
                k < τ.out → τ.out ≡ cond (seen' (suc k)) (suc k) 0
            last k e true d l m =
                rw (ap seen' (eqb-true (suc k) τ.out d) ∙ here) (sym (eqb-true (suc k) τ.out d))
            last k e false d l m =
                let ne = eqb-false (suc k) τ.out d in
                absurd (true≢false (sym (between (suc k) (omega arith) (omega arith)) ∙ e))
        new k e false o = rw (there (suc k) (λ d. other d) ∙ e)
          where
            other : suc k ≡ τ.out → ⊥
            other d = true≢false (sym (opens-between k τ (omega arith) (omega arith)) ∙ o)

    -- a state between that is not seen never gets its number
    pub passed-broken : (k : ℕ) → top τ.args ≤ k → suc k < τ.out → seen (suc k) ≡ false →
        first_open k (τs ++ (τ ∷ [])) ≡ τ.out
    passed-broken k h l e =
        first_open-none k τs (τ ∷ []) (passed-unseen k e) ∙ rw (opens-between k τ h (omega arith))

pub passed_none : (seen : ℕ → Bool) → ((j : ℕ) → seen j ≡ false) → Passed [] seen
passed_none seen h = record { each = λ k. rw (h (suc k)) }

module _ (A : Automaton) where
  abbrev numbers : ℕ → Bool
  numbers k = eqb (first_open k A.transitions) (suc k)

  -- at the end all states are seen
  pub passed-numbered : (seen : ℕ → Bool) → Passed A.transitions seen →
      every seen (up_from 1 (states A)) ≡ numbered A
  passed-numbered seen passed = go (every seen (up_from 1 (states A))) refl
    where
      all : every seen (up_from 1 (states A)) ≡ true → (k : ℕ) → 0 ≤ k → k < 0 + states A → numbers k ≡ true
      all e k _ h = eq-eqb (first_open k A.transitions) (suc k) (passed-seen passed k
          (every-at seen 1 (states A) e (suc k) (omega arith) (omega arith)))

      some : numbered A ≡ true → (j : ℕ) → 1 ≤ j → j < 1 + states A → seen j ≡ true
      some e zero h l = absurd (omega arith)
      some e (suc k) h l = given (seen (suc k)) refl
        where
          given : (b : Bool) → seen (suc k) ≡ b → seen (suc k) ≡ true
          given true d = d
          given false d =
              let z = passed-unseen passed k d in
              let f = eqb-true (first_open k A.transitions) (suc k)
              (every-at numbers 0 (states A) e k (omega arith) (omega arith)) in
              absurd (omega arith)

      go : (b : Bool) → every seen (up_from 1 (states A)) ≡ b → every seen (up_from 1 (states A)) ≡ numbered A
      go true e = e ∙ sym (at_every numbers 0 (states A) (all e))
      go false e = e ∙ sym (not-all (numbered A) refl)
        where
          not-all : (b : Bool) → numbered A ≡ b → numbered A ≡ false
          not-all true d = absurd (true≢false (sym (at_every seen 1 (states A) (some d)) ∙ e))
          not-all false d = d

  -- a number that goes to another state
  pub broken-numbered : (k : ℕ) → k < states A → suc k < first_open k A.transitions → numbered A ≡ false
  broken-numbered k h l = go (numbered A) refl
    where
      go : (b : Bool) → numbered A ≡ b → numbered A ≡ false
      go true e =
          let f = eqb-true (first_open k A.transitions) (suc k)
          (every-at numbers 0 (states A) e k (omega arith) (omega arith)) in
          absurd (omega arith)
      go false e = e

  -- condition 13 implies condition 9: each number is given by a transition over smaller ones
  pub numbered-accessible : states_in_range A ≡ true → numbered A ≡ true → all_accessible A ≡ true
  numbered-accessible ranged ruled =
      at_every (accessible A) 1 (states A) (λ q h l. below (states A) q h (omega arith) (omega arith))
    where
      below : (n q : ℕ) → 1 ≤ q → q ≤ n → n ≤ states A → accessible A q ≡ true
      below zero q h l m = absurd (omega arith)
      below (suc n) q h l m = go (λ p i j. below n p i j (omega arith)) (eqb q (suc n)) refl
        where
          opened : ((p : ℕ) → 1 ≤ p → p ≤ n → accessible A p ≡ true) →
              (τ : Transition) × (τ ∈ A.transitions) × (opens n τ ≡ true) × (τ.out ≡ suc n) →
              accessible A (suc n) ≡ true
          opened ih (τ, i, o, e) =
              closed eqb eqb-true eqb_same (accessible_rule A) (up_from 1 (states A)) (suc n)
              (in-up_from 1 (states A) (suc n) (omega arith) (omega arith))
              (in-any (λ τ. every (accessible A) τ.args && eqb (suc n) τ.out) A.transitions τ i
              (and_both (in-every (accessible A) τ.args args) (eq-eqb (suc n) τ.out (sym e))))
            where
              args : (p : ℕ) → p ∈ τ.args → accessible A p ≡ true
              args p j = ih p ((ranged-transition A ranged τ i).args p j).0
                  (leb-true p n (every_in (λ q. leb q n) τ.args (and_left _ _ o) p j))

          go : ((p : ℕ) → 1 ≤ p → p ≤ n → accessible A p ≡ true) → (b : Bool) → eqb q (suc n) ≡ b →
              accessible A q ≡ true
          go ih true e = rw (eqb-true q (suc n) e) (opened ih (first_open-in n A.transitions
              (eqb-true _ _ (every-at numbers 0 (states A) ruled n (omega arith) (omega arith)))))
          go ih false e = let ne = eqb-false q (suc n) e in ih q h (omega arith)

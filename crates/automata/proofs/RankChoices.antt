-- The transition and the state at which a number stands: what is chosen, and what is chosen for the number of a tree.
use mathlib.Core.Bool.{Bool, cond, false, true}
use mathlib.Core.List.{List, [], ◌∷◌}
use mathlib.Core.Logic.{inl, inr}
use mathlib.Core.Path.{◌∙◌, ◌≡◌, ap, refl, sym}
use Prim.Native.Nat.{◌+◌, ◌-◌, ◌<◌, ◌≤◌, suc, zero, ℕ}
use native.Mathlib.Omega.{arith}
use lib.Dec.{eqb, ltb}
use borrow.Author.Tests.{eq-eqb, eqb-true, le-ltb, lt-ltb, ltb-false, ltb-true}
use Rattle.automata.specs.Automaton.{Automaton, Transition, accepting, lookup, matches}
use Rattle.automata.specs.Ranks.{Chosen, state_of, sum_before, transition_of}
use Rattle.automata.specs.Totals.{product_over, sum_accepting, sum_into}
use Rattle.lists.specs.Positions.{up_from}
use Rattle.lists.specs.Tests.{◌∈◌}
use Rattle.automata.proofs.Steps.{matches-true}

-- ---- transitions

module _ (w : ℕ → ℕ) (q : ℕ) where
  -- how many trees of state q stand at a transition
  abbrev pub trees_at : Transition → ℕ
  trees_at τ = cond (eqb τ.out q) (product_over w τ.args) 0

  -- a transition into state q, and a number within it
  pub record TransitionChosen (τs : List Transition) (c : Chosen Transition) : Type 0 where
    pub member : c.what ∈ τs
    pub out : c.what.out ≡ q
    pub less : c.left < product_over w c.what.args

  pub transition-chosen : (τs : List Transition) (k : ℕ) → k < sum_into w q τs →
      TransitionChosen τs (transition_of w q k τs)
  transition-chosen [] k h = absurd (omega arith)
  transition-chosen (τ ∷ τs) k h = go (λ l. transition-chosen τs (k - trees_at τ) l) (ltb k (trees_at τ)) refl
    where
      here : (b : Bool) → eqb τ.out q ≡ b → k < cond b (product_over w τ.args) 0 →
          TransitionChosen (τ ∷ τs) (record { what = τ; left = k })
      here true e l = record { member = inl refl; out = eqb-true τ.out q e; less = l }
      here false e l = absurd (omega arith)

      go : (k - trees_at τ < sum_into w q τs → TransitionChosen τs (transition_of w q (k - trees_at τ) τs)) → (b : Bool) →
          ltb k (trees_at τ) ≡ b →
          TransitionChosen (τ ∷ τs) (cond b (record { what = τ; left = k }) (transition_of w q (k - trees_at τ) τs))
      go ih true e = here (eqb τ.out q) refl (ltb-true k (trees_at τ) e)
      go ih false e =
          let r = ih (omega (arith, ltb-false k (trees_at τ) e)) in
          record { member = inr r.member; out = r.out; less = r.less }

  -- the transition of label a over arguments qs
  module _ (a : ℕ) (qs : List ℕ) (some : 1 ≤ q) where
    -- its trees and those before it are among the trees of the state
    pub block_within : (τs : List Transition) → lookup a qs τs ≡ q →
        sum_before w q a qs τs + product_over w qs ≤ sum_into w q τs
    block_within [] e = absurd (omega arith)
    block_within (τ ∷ τs) e = go (block_within τs) (matches a qs τ) refl e
      where
        go : (lookup a qs τs ≡ q → sum_before w q a qs τs + product_over w qs ≤ sum_into w q τs) → (b : Bool) →
            matches a qs τ ≡ b → cond b τ.out (lookup a qs τs) ≡ q →
            cond b 0 (trees_at τ + sum_before w q a qs τs) + product_over w qs ≤ sum_into w q (τ ∷ τs)
        go ih true m o =
            let (l, p) = matches-true a qs τ m in
            let t : trees_at τ ≡ product_over w qs = rw (eq-eqb τ.out q o, p) in omega arith
        go ih false m o = omega (arith, ih o)

    -- number k finds it, with r left
    abbrev pub Found : ℕ → ℕ → List Transition → Type 0
    Found k r τs = transition_of w q k τs ≡ record { what = record { label = a; args = qs; out = q }; left = r }

    -- a number of its trees finds it
    pub transition-at : (r : ℕ) → r < product_over w qs → (τs : List Transition) → lookup a qs τs ≡ q →
        Found (sum_before w q a qs τs + r) r τs
    transition-at r h [] e = absurd (omega arith)
    transition-at r h (τ ∷ τs) e = go (transition-at r h τs) (matches a qs τ) refl e
      where
        go : (lookup a qs τs ≡ q → Found (sum_before w q a qs τs + r) r τs) → (b : Bool) → matches a qs τ ≡ b →
            cond b τ.out (lookup a qs τs) ≡ q → Found (cond b 0 (trees_at τ + sum_before w q a qs τs) + r) r (τ ∷ τs)
        go ih true m o =
            let (l, p) = matches-true a qs τ m in
            let t : trees_at τ ≡ product_over w qs = rw (eq-eqb τ.out q o, p) in
            let z : 0 + r ≡ r = omega arith in
            rw (z, lt-ltb r (trees_at τ) (omega arith))
            (λ i. record { what = record { label = l i; args = p i; out = o i }; left = r })
        go ih false m o =
            let k = trees_at τ + sum_before w q a qs τs + r in
            let d : k - trees_at τ ≡ sum_before w q a qs τs + r = omega arith in
            rw (le-ltb k (trees_at τ) (omega arith), d) (ih o)

-- ---- states

module _ (A : Automaton) (w : ℕ → ℕ) where
  -- how many accepted trees a state has
  abbrev pub accepted_at : ℕ → ℕ
  accepted_at q = cond (accepting A q) (w q) 0

  -- the accepted trees of a state and of those before it are among all
  pub state-within : (m s n : ℕ) → m < n → accepting A (s + m) ≡ true →
      sum_accepting A w (up_from s m) + w (s + m) ≤ sum_accepting A w (up_from s n)
  state-within m s zero h e = absurd (omega arith)
  state-within zero s (suc n) h e =
      let z : s + 0 ≡ s = omega arith in
      let t : accepting A s ≡ true = ap (accepting A) (sym z) ∙ e in rw (z, t) (omega arith)
  state-within (suc m) s (suc n) h e =
      let z : s + suc m ≡ suc s + m = omega arith in
      rw z (omega (arith, state-within m (suc s) n (omega arith) (ap (accepting A) (sym z) ∙ e)))

  -- a number of its trees finds it
  pub state-at : (m s n r : ℕ) → m < n → accepting A (s + m) ≡ true → r < w (s + m) →
      state_of A w (sum_accepting A w (up_from s m) + r) (up_from s n) ≡ record { what = s + m; left = r }
  state-at m s zero r h e l = absurd (omega arith)
  state-at zero s (suc n) r h e l =
      let z : s + 0 ≡ s = omega arith in
      let t : accepted_at s ≡ w s = rw (ap (accepting A) (sym z) ∙ e) in
      let y : 0 + r ≡ r = omega arith in
      rw (z, y, lt-ltb r (accepted_at s) (omega (arith, ap w z))) refl
  state-at (suc m) s (suc n) r h e l =
      let z : s + suc m ≡ suc s + m = omega arith in
      let k = accepted_at s + sum_accepting A w (up_from (suc s) m) + r in
      let d : k - accepted_at s ≡ sum_accepting A w (up_from (suc s) m) + r = omega arith in
      rw (le-ltb k (accepted_at s) (omega arith), d, z)
      (state-at m (suc s) n r (omega arith) (ap (accepting A) (sym z) ∙ e) (omega (arith, ap w z)))

-- Distinguishing states goes both ways, and 0 is not separated from itself.
use mathlib.Core.Bool.{Bool, beq, not, true}
use mathlib.Core.Logic.{◌⊎◌, inl, inr}
use mathlib.Core.Path.{◌≡◌, sym}
use Prim.Native.Nat.{suc, ℕ}
use Rattle.automata.specs.Automaton.{Automaton, accepting, states}
use Rattle.automata.specs.Distinguishable.{distinguishable, distinguishable_pairs, distinguishable_rule, pairs}
use Rattle.automata.specs.Distinguishable.{slots}
use Rattle.automata.specs.Distinguishable.{step_slot}
use Rattle.lists.specs.Closure.{elem}
use Rattle.lists.specs.Positions.{Pair, eq_pair, up_from}
use Rattle.lists.specs.Tests.{◌∈◌, any}
use Rattle.automata.proofs.Distinguishable.{differ, differs}
use Rattle.lists.proofs.Closure.{closed, closure-all}
use Rattle.lists.proofs.Distinct.{grid-in}
use Rattle.lists.proofs.Positions.{eq_pair-same, eq_pair-true, in-grid}
use Rattle.lists.proofs.Tests.{any-in, in-any, or_cases, or_left, or_right}

differ-sym : (a b : Bool) → not (beq a b) ≡ true → not (beq b a) ≡ true
differ-sym a b e = differs b a (λ q. differ a b e (sym q))

module _ (A : Automaton) where
  -- distinguishing goes both ways
  pub separated-sym : (p q : ℕ) → distinguishable A p q ≡ true → distinguishable A q p ≡ true
  separated-sym p q e =
      closure-all eq_pair eq_pair-true eq_pair-same (distinguishable_rule A) (pairs A) Turned made (p, q) e
    where
      Turned : Pair → Type 0
      Turned k = distinguishable A k.1 k.0 ≡ true

      turned-in : (k : Pair) → k ∈ pairs A → ◌∈◌ {A = Pair} (k.1, k.0) (pairs A)
      turned-in k i = let r = grid-in (up_from 0 (suc (states A))) (up_from 0 (suc (states A))) k i in
          in-grid (up_from 0 (suc (states A))) (up_from 0 (suc (states A))) k.1 k.0 r.1 r.0

      made : (m : Pair → Bool) → ((j : Pair) → m j ≡ true → Turned j) → (k : Pair) → k ∈ pairs A →
          distinguishable_rule A m k ≡ true → Turned k
      made m ih k i e = closed eq_pair eq_pair-true eq_pair-same (distinguishable_rule A) (pairs A) (k.1, k.0)
          (turned-in k i)
          (go (or_cases (not (beq (accepting A k.0) (accepting A k.1))) _ e))
        where
          go : (not (beq (accepting A k.0) (accepting A k.1)) ≡ true) ⊎
              (any (λ s. m (step_slot A s k.0, step_slot A s k.1)) (slots A.transitions) ≡ true) →
              distinguishable_rule A (λ j. elem eq_pair j (distinguishable_pairs A)) (k.1, k.0) ≡ true
          go (inl d) = or_left _ _ (differ-sym (accepting A k.0) (accepting A k.1) d)
          go (inr d) =
              let (s, j, f) = any-in (λ s. m (step_slot A s k.0, step_slot A s k.1)) (slots A.transitions) d in
              or_right (not (beq (accepting A k.1) (accepting A k.0))) _
              (in-any (λ s. distinguishable A (step_slot A s k.1) (step_slot A s k.0)) (slots A.transitions) s j
              (ih (step_slot A s k.0, step_slot A s k.1) f))

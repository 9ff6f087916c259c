-- The automaton that a table holds, by index. `decode` and `transitions_in` stay shut beyond this file.
use mathlib.Core.Bool.{false}
use mathlib.Core.List.{List, map}
use mathlib.Core.Path.{◌∙◌, ◌≡◌, ap, refl, subst, sym}
use Prim.Native.Nat.{◌+◌, ◌<◌, ◌≤◌, suc, zero, ℕ}
use native.Mathlib.Omega.{arith}
use lib.ListN.{get_or-eq_default, get_or, length}
use lib.Seq.{ext_get_or}
use Rattle.automata.specs.Automaton.{Transition, accepting, states}
use Rattle.lists.specs.Positions.{up_from}
use Rattle.lists.specs.Tests.{◌∈◌}
use Rattle.table.specs.Layout.{body, class_at, decode, nth_transition, state_count, transition_count, transitions_in}
use Rattle.lists.proofs.Intervals.{get_d-tabulated, get_d-tabulated-beyond, in-tabulated, length-tabulated}
use Rattle.lists.proofs.Intervals.{tabulated-in}

-- ---- a run of transitions

module _ (s : List ℕ) (n : ℕ) where
  pub transitions_in-length : length (transitions_in s n) ≡ n
  unfolding transitions_in
  transitions_in-length = length-tabulated (nth_transition s) 0 n

  pub transitions_in-nth : (i : ℕ) (d : Transition) → i < n → get_or (transitions_in s n) i d ≡ nth_transition s i
  unfolding transitions_in
  transitions_in-nth i d h =
      let e : 0 + i ≡ i = omega arith in get_d-tabulated (nth_transition s) 0 n i d h ∙ ap (nth_transition s) e

  pub in-transitions_in : (i : ℕ) → i < n → nth_transition s i ∈ transitions_in s n
  unfolding transitions_in
  in-transitions_in i h = in-tabulated (nth_transition s) 0 n i (omega arith) (omega arith)

  pub transitions_in-in : (τ : Transition) → τ ∈ transitions_in s n → (i : ℕ) × (i < n) × (τ ≡ nth_transition s i)
  unfolding transitions_in
  transitions_in-in τ m =
      let (i, h, l, e) = tabulated-in (nth_transition s) 0 n τ m in (i, omega arith, e)

  -- a list of transitions is those in s if it has as many and each is in its place
  pub transitions_in-is : (τs : List Transition) (d : Transition) → length τs ≡ n →
      ((i : ℕ) → i < n → nth_transition s i ≡ get_or τs i d) → transitions_in s n ≡ τs
  transitions_in-is τs d e h =
      ext_get_or d (transitions_in s n) τs (transitions_in-length ∙ sym e)
      (λ i l. let b : i < n = omega (arith, transitions_in-length) in transitions_in-nth i d b ∙ h i b)

-- ---- the automaton

module _ (b : List ℕ) where
  pub decoded-states : states (decode b) ≡ state_count b
  unfolding decode
  decoded-states = length-tabulated (class_at b) 1 (state_count b)

  pub decoded-classes : (decode b).classes ≡ map (class_at b) (up_from 1 (state_count b))
  unfolding decode
  decoded-classes = refl

  pub decoded-transitions : (decode b).transitions ≡ transitions_in (body b) (transition_count b)
  unfolding decode
  decoded-transitions = refl

  pub decoded-count : length (decode b).transitions ≡ transition_count b
  decoded-count = ap length decoded-transitions ∙ transitions_in-length (body b) (transition_count b)

  pub decoded-nth : (i : ℕ) (d : Transition) → i < transition_count b →
      get_or (decode b).transitions i d ≡ nth_transition (body b) i
  decoded-nth i d h =
      ap (λ (τs : List Transition). get_or τs i d) decoded-transitions
      ∙ transitions_in-nth (body b) (transition_count b) i d h

  pub decoded-beyond : (i : ℕ) (d : Transition) → transition_count b ≤ i → get_or (decode b).transitions i d ≡ d
  decoded-beyond i d h = get_or-eq_default (decode b).transitions d (omega (arith, decoded-count))

  pub decoded-in : (τ : Transition) → τ ∈ (decode b).transitions →
      (i : ℕ) × (i < transition_count b) × (τ ≡ nth_transition (body b) i)
  decoded-in τ m =
      transitions_in-in (body b) (transition_count b) τ
      (subst (λ (τs : List Transition). τ ∈ τs) decoded-transitions m)

  pub decoded-class : (q : ℕ) → 1 ≤ q → q ≤ state_count b → accepting (decode b) q ≡ class_at b q
  unfolding decode
  decoded-class zero h l = absurd (omega arith)
  decoded-class (suc q) h l =
      let e : 1 + q ≡ suc q = omega arith in
      get_d-tabulated (class_at b) 1 (state_count b) q false (omega arith) ∙ ap (class_at b) e

  pub decoded-class-beyond : (q : ℕ) → state_count b < q → accepting (decode b) q ≡ false
  unfolding decode
  decoded-class-beyond zero h = absurd (omega arith)
  decoded-class-beyond (suc q) h = get_d-tabulated-beyond (class_at b) 1 (state_count b) q false (omega arith)

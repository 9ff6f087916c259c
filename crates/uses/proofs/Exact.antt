-- The scan of the transitions is exact. A slot that takes the two states to different states is the slot of some
-- transition that has one of the two as an argument.
use mathlib.Core.Bool.{Bool, ◌||◌, cond, false, true}
use mathlib.Core.List.{List, [], ◌++◌, ◌∷◌}
use mathlib.Core.Logic.{◌⊎◌, inl, inr}
use mathlib.Core.Path.{◌∙◌, ◌≡◌, ap, ap₂, refl, subst, sym}
use Prim.Native.Nat.{◌*◌, ◌<◌, ℕ}
use native.Mathlib.Omega.{arith}
use lib.Dec.{eqb}
use lib.ListN.{length}
use borrow.Author.Tests.{eq-eqb, eqb-true}
use Rattle.automata.specs.Alike.{covered, uses_agree}
use Rattle.automata.specs.Automaton.{Automaton, Transition, lookup, step}
use Rattle.automata.specs.Distinguishable.{Slot, slots, step_slot}
use Rattle.sorted.specs.Steps.{slot_at}
use Rattle.fields.specs.Fields.{HoldsTransitionsOver}
use Rattle.fields.specs.View.{viewed}
use Rattle.format.specs.Format.{transition_bytes}
use Rattle.lists.specs.Tests.{◌∈◌, any}
use Rattle.packed.specs.Packed.{Searchable}
use Rattle.table.specs.Layout.{arg_of, arity_of, label_of, nth_transition, out_of, transitions_in}
use Rattle.trees.specs.Context.{Frame}
use Rattle.trees.specs.Tree.{Tree}
use Rattle.uses.specs.Uses.{Arrays, FramesOf, Holds, arrays, place_agrees, swap_agrees}
use Rattle.uses.specs.Uses.{transition_agrees, transitions_agree}
use Rattle.automata.proofs.Distinguishable.{in-slots}
use Rattle.automata.proofs.Order.{lookup-transition}
use Rattle.automata.proofs.Steps.{Taken, step-view}
use Rattle.sorted.proofs.Slots.{args-around, slot_is}
use Rattle.fields.proofs.Views.{viewed-arg}
use Rattle.lists.proofs.Intervals.{at_every, every-at}
use Rattle.lists.proofs.Tests.{every_in, in-every, none-zero, or_cases, or_left, or_right, same_test}
use Rattle.table.proofs.Decoded.{in-transitions_in, transitions_in-in}
use Rattle.uses.proofs.Coverage.{covered-exact}

pub uses-same : (A : Automaton) (t : Tree) (F : List Frame) (p q : ℕ) → p ≡ q → true ≡ uses_agree A t F p q
unfolding uses_agree
uses-same A t F p q e =
    sym (in-every (λ π. covered A t π F || eqb (step_slot A π p) (step_slot A π q)) (slots A.transitions)
    (λ π i. or_right (covered A t π F) _ (eq-eqb (step_slot A π p) (step_slot A π q) (ap (step_slot A π) e))))

-- a test of two numbers, the other way round
flip : (u v : ℕ) (b : Bool) → (b || eqb u v) ≡ true → (eqb v u || b) ≡ true
flip u v b e = go (or_cases b (eqb u v) e)
  where
    go : (b ≡ true) ⊎ (eqb u v ≡ true) → (eqb v u || b) ≡ true
    go (inl d) = or_right (eqb v u) b d
    go (inr d) = or_left (eqb v u) b (eq-eqb v u (sym (eqb-true u v d)))

flip-back : (u v : ℕ) (b : Bool) → (eqb v u || b) ≡ true → (b || eqb u v) ≡ true
flip-back u v b e = go (or_cases (eqb v u) b e)
  where
    go : (eqb v u ≡ true) ⊎ (b ≡ true) → (b || eqb u v) ≡ true
    go (inl d) = or_right b (eqb u v) (eq-eqb u v (sym (eqb-true v u d)))
    go (inr d) = or_left b (eqb u v) d

module _ {A : Automaton} {t : Tree} {ts : List Tree} {s : List ℕ} {c n : ℕ} {l r h q w : List ℕ} {m : ℕ}
    (searchable : Searchable s c) (over : HoldsTransitionsOver s c n) (holds : Holds A t ts s c n l r h q w m) where
  same_step : (π : Slot) (x : ℕ) → step_slot A π x ≡ step_slot (viewed [] s 0 c) π x
  same_step π x =
      ap (λ (τs : List Transition). cond (any (eqb 0) (π.before ++ (x ∷ π.after))) 0
      (lookup π.label (π.before ++ (x ∷ π.after)) τs)) holds.transitions

  -- with its own argument a transition gives its output
  own-step : (i k : ℕ) → i < c → k < arity_of s (transition_bytes * i) →
      step_slot A (slot_at s (transition_bytes * i) k) (arg_of s (transition_bytes * i) k) ≡ out_of s (transition_bytes * i)
  own-step i k b d =
      let e = args-around s (transition_bytes * i) k d in
      let z = none-zero (nth_transition s i).args (λ x j. (viewed-arg [] s n c over i b x j).0) in
      same_step (slot_at s (transition_bytes * i) k) (arg_of s (transition_bytes * i) k)
      ∙ ap (λ (qs : List ℕ). step (viewed [] s 0 c) (label_of s (transition_bytes * i)) qs) (sym e)
      ∙ rw z (lookup-transition (transitions_in s c) searchable.rises (nth_transition s i) (in-transitions_in s c i b))

  slot-in : (i k : ℕ) → i < c → k < arity_of s (transition_bytes * i) →
      slot_at s (transition_bytes * i) k ∈ slots A.transitions
  slot-in i k b d =
      subst (λ (τs : List Transition). slot_at s (transition_bytes * i) k ∈ slots τs) (sym holds.transitions)
      (in-slots (transitions_in s c) (nth_transition s i) (slot_at s (transition_bytes * i) k).before
      (arg_of s (transition_bytes * i) k) (slot_at s (transition_bytes * i) k).after (in-transitions_in s c i b)
      (args-around s (transition_bytes * i) k d))

  -- a step to a state is that of a transition with this argument at this place
  through : (π : Slot) (x : ℕ) → Taken A π.label (π.before ++ (x ∷ π.after)) →
      (i : ℕ) × (i < c) × (k : ℕ) × (k < arity_of s (transition_bytes * i)) ×
      (slot_at s (transition_bytes * i) k ≡ π) × (arg_of s (transition_bytes * i) k ≡ x)
  through π x (y, (τ, j, a, g, o)) =
      let (i, b, e) = transitions_in-in s c τ (subst (λ (τs : List Transition). τ ∈ τs) holds.transitions j) in
      let z = slot_is s (transition_bytes * i) x π (ap (λ (υ : Transition). υ.label) (sym e) ∙ a)
      (ap (λ (υ : Transition). υ.args) (sym e) ∙ g) in
      (i, b, length π.before, z.0, z.1, z.2)

  module _ (j v : ℕ) (F : List Frame) (frames : FramesOf t ts m j v F) (x y : ℕ) where
    abbrev a : Arrays
    a = arrays l r h q w m j v

    abbrev test : Slot → Bool
    test π = covered A t π F || eqb (step_slot A π x) (step_slot A π y)

    module _ (i k : ℕ) (b : i < c) (d : k < arity_of s (transition_bytes * i)) where
      abbrev π : Slot
      π = slot_at s (transition_bytes * i) k

      abbrev arg : ℕ
      arg = arg_of s (transition_bytes * i) k

      swap_is : (z : ℕ) → swap_agrees a s c (transition_bytes * i) k z ≡
          (eqb (step_slot A π z) (step_slot A π arg) || covered A t π F)
      unfolding swap_agrees
      swap_is z =
          ap₂ ◌||◌ (ap₂ eqb (sym (same_step π z)) (sym (own-step i k b d))) (covered-exact over holds frames i k b d)

      into : test π ≡ true → place_agrees a s c (transition_bytes * i) x y k ≡ true
      into e = go (eqb arg x) (eqb arg y) refl refl
        where
          go : (f g : Bool) → eqb arg x ≡ f → eqb arg y ≡ g →
              cond f (swap_agrees a s c (transition_bytes * i) k y)
              (cond g (swap_agrees a s c (transition_bytes * i) k x) true) ≡ true
          go true g p o =
              swap_is y
              ∙ ap (λ (z : ℕ). eqb (step_slot A π y) (step_slot A π z) || covered A t π F) (eqb-true arg x p)
              ∙ flip (step_slot A π x) (step_slot A π y) (covered A t π F) e
          go false true p o =
              swap_is x
              ∙ ap (λ (z : ℕ). eqb (step_slot A π x) (step_slot A π z) || covered A t π F) (eqb-true arg y o)
              ∙ flip (step_slot A π y) (step_slot A π x) (covered A t π F) (turned (or_cases (covered A t π F) (eqb (step_slot A π x) (step_slot A π y)) e))
            where
              turned : (covered A t π F ≡ true) ⊎ (eqb (step_slot A π x) (step_slot A π y) ≡ true) →
                  (covered A t π F || eqb (step_slot A π y) (step_slot A π x)) ≡ true
              turned (inl z) = or_left (covered A t π F) (eqb (step_slot A π y) (step_slot A π x)) z
              turned (inr z) =
                  or_right (covered A t π F) (eqb (step_slot A π y) (step_slot A π x))
                  (eq-eqb (step_slot A π y) (step_slot A π x) (sym (eqb-true (step_slot A π x) (step_slot A π y) z)))
          go false false p o = refl

      first : arg ≡ x → place_agrees a s c (transition_bytes * i) x y k ≡ true → test π ≡ true
      first e p =
          let f : swap_agrees a s c (transition_bytes * i) k y ≡ true = rw (eq-eqb arg x e) at p in
          flip-back (step_slot A π x) (step_slot A π y) (covered A t π F)
          (ap (λ (z : ℕ). eqb (step_slot A π y) (step_slot A π z) || covered A t π F) (sym e) ∙ sym (swap_is y) ∙ f)

      second : arg ≡ y → place_agrees a s c (transition_bytes * i) x y k ≡ true → test π ≡ true
      second e p = go (eqb arg x) refl
        where
          go : (f : Bool) → eqb arg x ≡ f → test π ≡ true
          go true g = first (eqb-true arg x g) p
          go false g =
              let f : swap_agrees a s c (transition_bytes * i) k x ≡ true = rw (g, eq-eqb arg y e) at p in
              turned (or_cases (eqb (step_slot A π x) (step_slot A π arg)) (covered A t π F) (sym (swap_is x) ∙ f))
            where
              turned : (eqb (step_slot A π x) (step_slot A π arg) ≡ true) ⊎ (covered A t π F ≡ true) → test π ≡ true
              turned (inl z) =
                  or_right (covered A t π F) (eqb (step_slot A π x) (step_slot A π y))
                  (eq-eqb (step_slot A π x) (step_slot A π y)
                  (eqb-true (step_slot A π x) (step_slot A π arg) z ∙ ap (step_slot A π) e))
              turned (inr z) = or_left (covered A t π F) (eqb (step_slot A π x) (step_slot A π y)) z

    forth : transitions_agree a s c x y ≡ true → uses_agree A t F x y ≡ true
    unfolding uses_agree transition_agrees
    forth e = in-every test (slots A.transitions) (λ π i. each π)
      where
        placed : (i k : ℕ) → i < c → k < arity_of s (transition_bytes * i) →
            place_agrees a s c (transition_bytes * i) x y k ≡ true
        placed i k b d =
            every-at (place_agrees a s c (transition_bytes * i) x y) 0 (arity_of s (transition_bytes * i))
            (every-at (transition_agrees a s c x y) 0 c e i (omega arith) (omega arith)) k (omega arith) (omega arith)

        Stepped : Slot → ℕ → Type 0
        Stepped π z = (step_slot A π z ≡ 0) ⊎ Taken A π.label (π.before ++ (z ∷ π.after))

        each : (π : Slot) → test π ≡ true
        each π = go (step-view A π.label (π.before ++ (x ∷ π.after)))
            (step-view A π.label (π.before ++ (y ∷ π.after)))
          where
            go : Stepped π x → Stepped π y → test π ≡ true
            go (inr u) o =
                let (i, b, k, d, g, p) = through π x u in
                subst (λ (ρ : Slot). test ρ ≡ true) g (first i k b d p (placed i k b d))
            go (inl o) (inr u) =
                let (i, b, k, d, g, p) = through π y u in
                subst (λ (ρ : Slot). test ρ ≡ true) g (second i k b d p (placed i k b d))
            go (inl o) (inl p) = or_right (covered A t π F) _ (eq-eqb (step_slot A π x) (step_slot A π y) (o ∙ sym p))

    back : uses_agree A t F x y ≡ true → transitions_agree a s c x y ≡ true
    unfolding uses_agree transition_agrees
    back e =
        at_every (transition_agrees a s c x y) 0 c (λ i o b.
        at_every (place_agrees a s c (transition_bytes * i) x y) 0 (arity_of s (transition_bytes * i)) (λ k z d.
        let f : i < c = omega arith in
        let g : k < arity_of s (transition_bytes * i) = omega arith in
        into i k f g (every_in test (slots A.transitions) e (slot_at s (transition_bytes * i) k) (slot-in i k f g))))

    pub uses-exact : transitions_agree a s c x y ≡ uses_agree A t F x y
    uses-exact = same_test (transitions_agree a s c x y) (uses_agree A t F x y) forth back

-- The output of a transition with another state for one of its arguments, and with its own.
use mathlib.Core.Bool.{false, true}
use mathlib.Core.List.{List, [], ◌++◌, ◌∷◌}
use mathlib.Core.Logic.{◌≢◌, ◌⊎◌, inl, inr}
use mathlib.Core.Path.{◌∙◌, ◌≡◌, ap, ap₂, subst, sym}
use Prim.Native.Nat.{◌*◌, ◌<◌, ◌≤◌, ℕ}
use native.Mathlib.Omega.{arith}
use lib.Dec.{eqb}
use lib.ListN.{length}
use Rattle.automata.specs.Automaton.{Automaton, Transition, lookup, step}
use Rattle.automata.specs.Distinguishable.{Slot, step_slot}
use Rattle.automata.specs.Order.{rising}
use Rattle.fields.specs.Entries.{HasFields, put_at}
use Rattle.fields.specs.Fields.{HoldsTransitionsOver}
use Rattle.fields.specs.View.{Viewed, viewed}
use Rattle.format.specs.Format.{max_arity, transition_bytes}
use Rattle.lists.specs.Tests.{◌∈◌, any}
use Rattle.sorted.specs.Steps.{slot_at, step_at}
use Rattle.table.specs.Layout.{arg_of, arity_of, label_of, nth_transition, out_of, transition_at, transitions_in}
use Rattle.automata.proofs.Order.{lookup-transition}
use Rattle.automata.proofs.Steps.{Taken, step-zero}
use Rattle.fields.proofs.Entries.{fields-args}
use Rattle.fields.proofs.Views.{viewed-arg}
use Rattle.lists.proofs.Tests.{append-in, in_append_left, in_append_right, none-zero}
use Rattle.sorted.proofs.Slots.{args-around, args-put, slot_is}
use Rattle.table.proofs.Decoded.{in-transitions_in, transitions_in-in}

-- an entry with the fields of a transition but for argument k is that transition with the argument replaced
pub replaced-output : (s : List ℕ) (c at k q : ℕ) {e : List ℕ} {o : ℕ} →
    HasFields e (label_of s at) (arity_of s at) (put_at (arg_of s at) k q) o → k < arity_of s at →
    arity_of s at ≤ max_arity →
    {x : ℕ} → x ≡ lookup (transition_at e 0).label (transition_at e 0).args (transitions_in s c) →
    x ≡ lookup (label_of s at) ((slot_at s at k).before ++ (q ∷ (slot_at s at k).after)) (transitions_in s c)
replaced-output s c at k q is h small x =
    x ∙ ap₂ (λ (a : ℕ) (qs : List ℕ). lookup a qs (transitions_in s c)) is.label
    (fields-args is small ∙ args-put (arg_of s at) k (arity_of s at) q h)

-- ---- steps

pub step-none : (s : List ℕ) (c at k : ℕ) → ◌≡◌ {A = ℕ} 0 (step_at s c at k 0)
step-none s c at k = sym (step-zero (viewed [] s 0 c) (label_of s at) (slot_at s at k).before (slot_at s at k).after)

pub step-some : (s : List ℕ) (c n i k q : ℕ) → HoldsTransitionsOver s c n → i < c → k < arity_of s (transition_bytes * i) → q ≢ 0 →
    {x : ℕ} → x ≡ lookup (label_of s (transition_bytes * i))
    ((slot_at s (transition_bytes * i) k).before ++ (q ∷ (slot_at s (transition_bytes * i) k).after)) (transitions_in s c) →
    x ≡ step_at s c (transition_bytes * i) k q
step-some s c n i k q over h l ne e = rw z e
  where
    at : ℕ
    at = transition_bytes * i

    all : (p : ℕ) → p ∈ (slot_at s (transition_bytes * i) k).before ++ (arg_of s (transition_bytes * i) k ∷ (slot_at s
        (transition_bytes * i) k).after) → 1 ≤ p
    all p j = (viewed-arg [] s n c over i h p (subst (λ (qs : List ℕ). p ∈ qs) (sym (args-around s (transition_bytes *
        i) k l)) j)).0

    z : any (eqb 0) ((slot_at s (transition_bytes * i) k).before ++ (q ∷ (slot_at s (transition_bytes * i) k).after)) ≡ false
    z = none-zero ((slot_at s (transition_bytes * i) k).before ++ (q ∷ (slot_at s (transition_bytes * i) k).after)) some
      where
        some : (p : ℕ) → p ∈ (slot_at s (transition_bytes * i) k).before ++ (q ∷ (slot_at s (transition_bytes * i) k
            ).after) → 1 ≤ p
        some p j = go (append-in (slot_at s (transition_bytes * i) k).before (q ∷ (slot_at s (transition_bytes * i) k
            ).after) p j)
          where
            go : (p ∈ (slot_at s (transition_bytes * i) k).before) ⊎ (p ∈ (q ∷ (slot_at s (transition_bytes * i) k
                ).after)) → 1 ≤ p
            go (inl y) = all p (in_append_left (slot_at s (transition_bytes * i) k).before _ p y)
            go (inr (inl y)) = omega arith
            go (inr (inr y)) = all p (in_append_right (slot_at s (transition_bytes * i) k).before _ p (inr y))

-- ---- the step of an automaton

-- with its own argument a transition gives its output
pub own-step : (cl s : List ℕ) (n c : ℕ) → Viewed cl s n c → rising (transitions_in s c) ≡ true → (i k : ℕ) → i < c →
    k < arity_of s (transition_bytes * i) →
    step_at s c (transition_bytes * i) k (arg_of s (transition_bytes * i) k) ≡ out_of s (transition_bytes * i)
own-step cl s n c view rises i k h l =
    let e = args-around s (transition_bytes * i) k l in
    let z = none-zero (nth_transition s i).args (λ q j. (viewed-arg cl s n c view.over i h q j).0) in
    ap (λ (qs : List ℕ). step (viewed [] s 0 c) (label_of s (transition_bytes * i)) qs) (sym e)
    ∙ rw z (lookup-transition (transitions_in s c) rises (nth_transition s i) (in-transitions_in s c i h))

module _ (cl s : List ℕ) (n c : ℕ) where
  abbrev A : Automaton
  A = viewed cl s n c

  -- a step to a state is that of a transition with this argument at this place
  abbrev pub Through : Slot → ℕ → Type 0
  Through z p = (i : ℕ) × (i < c) × (k : ℕ) × (k < arity_of s (transition_bytes * i)) ×
      (slot_at s (transition_bytes * i) k ≡ z) × (arg_of s (transition_bytes * i) k ≡ p) ×
      (out_of s (transition_bytes * i) ≡ step_slot A z p)

  pub taken-through : (z : Slot) (p : ℕ) → Taken A z.label (z.before ++ (p ∷ z.after)) → Through z p
  taken-through z p (y, (τ, j, l, a, o)) =
      let (i, h, e) = transitions_in-in s c τ j in
      let x = slot_is s (transition_bytes * i) p z (ap (λ (υ : Transition). υ.label) (sym e) ∙ l)
      (ap (λ (υ : Transition). υ.args) (sym e) ∙ a) in
      (i, h, length z.before, x.0, x.1, x.2, ap (λ (υ : Transition). υ.out) (sym e) ∙ o)

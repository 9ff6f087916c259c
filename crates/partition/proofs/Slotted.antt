-- A slot takes states that nothing separates to one part, so the parts that it takes states to are keys to split by.
use mathlib.Core.Bool.{Bool, cond, false, true}
use mathlib.Core.List.{List, ◌++◌, ◌∷◌}
use mathlib.Core.Logic.{◌≢◌}
use mathlib.Core.Path.{◌∙◌, ◌≡◌, ap, ap₂, refl, sym}
use Prim.Native.Nat.{◌*◌, ◌<◌, ◌≤◌, ℕ}
use native.Mathlib.Omega.{arith}
use lib.Dec.{eqb}
use lib.ListN.{length-replicate, replicate}
use borrow.Author.Tests.{eq-eqb}
use Rattle.automata.specs.Automaton.{Automaton, states}
use Rattle.automata.specs.Distinguishable.{distinguishable}
use Rattle.automata.specs.Order.{rising}
use Rattle.automata.specs.Valid.{states_in_range}
use Rattle.fields.specs.Fields.{HoldsTransitionsOver}
use Rattle.fields.specs.View.{viewed}
use Rattle.format.specs.Format.{transition_bytes}
use Rattle.marking.specs.Marks.{marked}
use Rattle.sorted.specs.Steps.{slot_at, step_at}
use Rattle.table.specs.Layout.{arg_of, arity_of, nth_transition, out_of, transitions_in}
use Rattle.partition.specs.Parts.{Grouped, Parts, part_of}
use Rattle.partition.specs.Splits.{Mates, PartKeys, Regrouped, Shared, Split, Stable, key_of, part_to}
use Rattle.automata.proofs.Distinguishable.{step_fits}
use Rattle.automata.proofs.Valid.{ranged-fits}
use Rattle.fields.proofs.Views.{viewed-ranged, viewed-states}
use Rattle.fingerprints.proofs.Equivalent.{by-use}
use Rattle.fingerprints.proofs.Uses.{Used}
use Rattle.sorted.proofs.Slots.{args-around}
use Rattle.sorted.proofs.Stepping.{own-step}
use Rattle.table.proofs.Decoded.{in-transitions_in}
use Rattle.partition.proofs.Splitting.{split-keys}

module _ (s : List ℕ) (n c : ℕ) (over : HoldsTransitionsOver s c n) (rises : rising (transitions_in s c) ≡ true)
    (i k : ℕ) (h : i < c) (l : k < arity_of s (transition_bytes * i)) where
  used : Used (transitions_in s c) (arg_of s (transition_bytes * i) k) (slot_at s (transition_bytes * i) k)
  used = (nth_transition s i, in-transitions_in s c i h, (refl, args-around s (transition_bytes * i) k l))

  -- the slot takes its own argument to the transition's output
  pub own-part : n ≤ 255 → step_at s c (transition_bytes * i) k (arg_of s (transition_bytes * i) k) ≡
      out_of s (transition_bytes * i)
  own-part few =
      own-step (replicate 256 0) s n c
      (record { over = over; states = few; classes = omega (arith, length-replicate {A = ℕ} 256 0) }) rises i k h l

  module _ {m : List ℕ} (cl : List ℕ) (parts : Parts (viewed cl s n c) m) where
    abbrev A : Automaton
    A = viewed cl s n c

    ranged : states_in_range A ≡ true
    ranged = viewed-ranged cl s n c over

    step-state : (q : ℕ) → step_at s c (transition_bytes * i) k q ≤ states A
    step-state q =
        step_fits A (ranged-fits A ranged) (slot_at s (transition_bytes * i) k).label
        ((slot_at s (transition_bytes * i) k).before ++ (q ∷ (slot_at s (transition_bytes * i) k).after))

    slot-sound : (p q : ℕ) → p ≤ states A → q ≤ states A → (distinguishable A p q ≡ true → ⊥) →
        part_to s c m i k p ≡ part_to s c m i k q
    slot-sound p q a b d =
        parts.sound (step_at s c (transition_bytes * i) k p) (step_at s c (transition_bytes * i) k q)
        (step-state p) (step-state q)
        (λ w. d (by-use A ranged rises (arg_of s (transition_bytes * i) k) (slot_at s (transition_bytes * i) k) used
        p q a b w))

    pub keys-shared : {lead : ℕ} {keys : List ℕ} → PartKeys s n c m i k lead keys → Shared A (key_of keys)
    keys-shared {lead} t p q a b d =
        t.each p (omega (arith, viewed-states cl s n c))
        ∙ ap₂ (λ (x y : ℕ). cond (eqb x lead) y 0) (parts.sound p q a b d) (slot-sound p q a b d)
        ∙ sym (t.each q (omega (arith, viewed-states cl s n c)))

  -- ---- one place

  module _ {m : List ℕ} (g : Grouped n m) where
    -- its argument has its part for itself
    pub lone-stable : {f : List ℕ} → Mates n m f → marked f (arg_of s (transition_bytes * i) k) ≡ false →
        Stable s n c i k m
    lone-stable mates e = record {
      leader = agrees (part_of m a) (omega (arith, state, g.below a state)) (g.own a state);
      members = λ _. agrees;
    }
      where
        a : ℕ
        a = arg_of s (transition_bytes * i) k

        state : arg_of s (transition_bytes * i) k ≤ n
        state = over.arg-state i k h l

        agrees : (q : ℕ) → q ≤ n → part_of m q ≡ part_of m (arg_of s (transition_bytes * i) k) →
            part_to s c m i k q ≡ part_of m (out_of s (transition_bytes * i))
        agrees q b d =
            ap (part_to s c m i k) (mates.alone a (over.arg-some i k h l) state e q b d)
            ∙ ap (part_of m) (own-part g.few)

    -- its argument does not lead, and the leader agrees with it
    pub led-stable : arg_of s (transition_bytes * i) k ≢ part_of m (arg_of s (transition_bytes * i) k) →
        part_to s c m i k (part_of m (arg_of s (transition_bytes * i) k)) ≡ part_of m (out_of s (transition_bytes * i)) →
        Stable s n c i k m
    led-stable ne e = record { leader = e; members = λ d. absurd (ne d) }

    -- no state of the part has another key than its leader
    pub keys-stable : {keys : List ℕ} →
        PartKeys s n c m i k (part_of m (arg_of s (transition_bytes * i) k)) keys →
        ((q : ℕ) → 1 ≤ q → q ≤ n → key_of keys q ≡ key_of keys (part_of m q)) → Stable s n c i k m
    keys-stable {keys} t none = record {
      leader = sym (same a state refl) ∙ ap (part_of m) (own-part g.few);
      members = λ _ q b d. same q b d ∙ sym (same a state refl) ∙ ap (part_of m) (own-part g.few);
    }
      where
        a : ℕ
        a = arg_of s (transition_bytes * i) k

        lead : ℕ
        lead = part_of m (arg_of s (transition_bytes * i) k)

        state : arg_of s (transition_bytes * i) k ≤ n
        state = over.arg-state i k h l

        key : (q : ℕ) → q ≤ n → part_of m q ≡ part_of m (arg_of s (transition_bytes * i) k) →
            key_of keys q ≡ part_to s c m i k q
        key q b d = t.each q b ∙ rw (eq-eqb _ _ d)

        same : (q : ℕ) → q ≤ n → part_of m q ≡ part_of m (arg_of s (transition_bytes * i) k) →
            part_to s c m i k q ≡ part_to s c m i k (part_of m (arg_of s (transition_bytes * i) k))
        same q b d =
            let x : 1 ≤ part_of m (arg_of s (transition_bytes * i) k) =
            g.some (arg_of s (transition_bytes * i) k) (over.arg-some i k h l) state in
            let y : part_of m q ≤ q = g.below q b in
            sym (key q b d)
            ∙ none q (omega (arith, x, y, d)) b
            ∙ ap (key_of keys) d
            ∙ key lead (omega (arith, state, g.below a state)) (g.own a state)

    pub split_at : {m' keys : List ℕ} {r : Bool} →
        PartKeys s n c m i k (part_of m (arg_of s (transition_bytes * i) k)) keys →
        Regrouped n (key_of keys) m m' r → Split s n c (Stable s n c i k) m m' r
    split_at t u = split-keys g u (λ cl p. keys-shared cl p t) (λ e. keys-stable t (u.none e))

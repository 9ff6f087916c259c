-- If a state is used like another, it has the same output in each slot of the other that is not covered.
use mathlib.Core.Bool.{false, true, true≢false}
use mathlib.Core.List.{List, [], ◌++◌, ◌∷◌}
use mathlib.Core.Logic.{◌⊎◌, inl, inr}
use mathlib.Core.Path.{◌∙◌, ◌≡◌, ap, subst, sym}
use Prim.Native.Nat.{◌*◌, ◌+◌, ◌-◌, ◌<◌, ◌^◌, ◌≤◌, ℕ}
use native.Mathlib.Omega.{arith}
use lib.Dec.{eqb}
use lib.ListN.{get_or, length}
use borrow.Author.Tests.{eq-eqb, eqb-true}
use Rattle.automata.specs.Automaton.{Automaton, step}
use Rattle.sorted.specs.Steps.{slot_at, step_at}
use Rattle.fields.specs.Fields.{HoldsTransitionsOver}
use Rattle.format.specs.Format.{byte_pairs, transition_bytes}
use Rattle.packed.specs.declared.slots.Slot.{Slot}
use Rattle.packed.specs.Packed.{Searchable, meta_at, packed, packed_at}
use Rattle.packed.specs.Slots.{SlotTakes}
use Rattle.table.specs.Layout.{arg_of, arity_of, label_of, out_of, transitions_in}
use Rattle.uses.specs.Uses.{Arrays, SlotUsed, covered_at, place_agrees, swap_agrees, transition_agrees}
use Rattle.uses.specs.Uses.{transitions_agree}
use Rattle.automata.proofs.Steps.{Has, Taken, step-view}
use Rattle.sorted.proofs.Slots.{args-put}
use Rattle.fields.specs.View.{viewed}
use Rattle.lists.proofs.Intervals.{every-at}
use Rattle.lists.proofs.Tests.{or_cases}
use Rattle.packed.proofs.Exchange.{exchanged-here, exchanged-number, exchanged-size, exchanged_args}
use Rattle.packed.proofs.Walks.{slot-takes}

-- a step to a state is that of a transition
pub step-has : (A : Automaton) (b : ℕ) (qs : List ℕ) {v : ℕ} → step A b qs ≡ v → 1 ≤ v → Has A.transitions b qs v
step-has A b qs {v} e some = go (step-view A b qs)
  where
    go : (step A b qs ≡ 0) ⊎ Taken A b qs → Has A.transitions b qs v
    go (inl z) = absurd (omega arith)
    go (inr (_, has)) = subst (Has A.transitions b qs) e has

module _ (a : Arrays) {s : List ℕ} {c n : ℕ} (r : Searchable s c) (over : HoldsTransitionsOver s c n) (i k : ℕ)
    (h : i < c) (d : k < arity_of s (transition_bytes * i)) {p : ℕ} (arg : p ≡ arg_of s (transition_bytes * i) k)
    (bare : covered_at a s (transition_bytes * i) k ≡ false) where
  abbrev at : ℕ
  at = transition_bytes * i

  -- the state gives the same output there
  same-output : (q : ℕ) → transitions_agree a s c p q ≡ true → step_at s c at k q ≡ out_of s at
  unfolding transition_agrees swap_agrees
  same-output q agree =
      let one = every-at (transition_agrees a s c p q) 0 c agree i (omega arith) (omega arith) in
      let place = every-at (place_agrees a s c at p q) 0 (arity_of s at) one k (omega arith) (omega arith) in
      go (or_cases (eqb (step_at s c at k q) (out_of s at)) (covered_at a s at k)
      (rw (eq-eqb (arg_of s at k) p (sym arg)) at place))
    where
      go : (eqb (step_at s c at k q) (out_of s at) ≡ true) ⊎ (covered_at a s at k ≡ true) → step_at s c at k q ≡ out_of s at
      go (inl e) = eqb-true (step_at s c at k q) (out_of s at) e
      go (inr e) = absurd (true≢false (sym e ∙ bare))

  has-exchanged : (q : ℕ) → transitions_agree a s c p q ≡ true →
      Has (transitions_in s c) (label_of s at) (exchanged_args s at k q) (out_of s at)
  has-exchanged q agree =
      subst (λ (qs : List ℕ). Has (transitions_in s c) (label_of s at) qs (out_of s at))
      (sym (args-put (arg_of s at) k (arity_of s at) q d))
      (step-has (viewed [] s 0 c) (label_of s at) ((slot_at s at k).before ++ (q ∷ (slot_at s at k).after))
      (same-output q agree) (over.out_some i h))

  pub used-slot : (z : Slot) → z.meta ≡ meta_at s at → z.args ≡ packed_at s at - p * 2 ^ (8 * (7 - k)) →
      z.place ≡ k → z.out ≡ out_of s at → SlotUsed a s c p z
  used-slot z meta args place out = record {
    place = omega (arith, (r.padded.each i h).narrow);
    takes = λ q agree. subst (SlotTakes s c z) (here q)
        (slot-takes z (label_of s at) (exchanged_args s at k q) r.padded (omega (arith, size q))
        (meta ∙ ap (λ x. byte_pairs * x + label_of s at) (sym (size q))) (number q)
        (subst (Has (transitions_in s c) (label_of s at) (exchanged_args s at k q)) (sym out) (has-exchanged q agree)));
  }
    where
      size : (q : ℕ) → length (exchanged_args s at k q) ≡ arity_of s at
      size q = exchanged-size s at k (r.padded.each i h) d q

      here : (q : ℕ) → get_or (exchanged_args s at k q) z.place 0 ≡ q
      here q = ap (λ x. get_or (exchanged_args s at k q) x 0) place ∙ exchanged-here s at k (r.padded.each i h) d q

      number : (q : ℕ) → packed (exchanged_args s at k q) ≡
          z.args + get_or (exchanged_args s at k q) z.place 0 * 2 ^ (8 * (7 - z.place))
      number q =
          let left = ap (λ x. x * 2 ^ (8 * (7 - k))) arg in
          let sum : packed (exchanged_args s at k q) ≡ z.args + q * 2 ^ (8 * (7 - k)) =
          omega (arith, exchanged-number s at k (r.padded.each i h) d q, left) in
          sum ∙ ap (λ x. z.args + q * 2 ^ (8 * (7 - x))) (sym place)
          ∙ ap (λ x. z.args + x * 2 ^ (8 * (7 - z.place))) (sym (here q))

-- Transitions outside the walk use neither state, so every place of every transition agrees.
use mathlib.Core.Bool.{Bool, false, true}
use mathlib.Core.List.{List}
use mathlib.Core.Path.{◌≡◌, ap, refl, subst, sym}
use Prim.Native.Nat.{◌*◌, ◌+◌, ◌<◌, ◌≤◌, max, ℕ}
use native.Mathlib.Omega.{arith}
use lib.Dec.{eqb}
use lib.ListN.{get_or}
use borrow.Author.Tests.{eqb-false, eqb-true}
use Rattle.format.specs.Format.{max_arity, transition_bytes}
use Rattle.lists.proofs.Intervals.{at_every}
use Rattle.packed.specs.Packed.{Searchable}
use Rattle.table.specs.Layout.{arg_of, arity_of}
use Rattle.uses.specs.Spans.{UsesWithin}
use Rattle.uses.specs.Settings.{arrays_in}
use Rattle.uses.specs.Uses.{Arrays, place_agrees, transition_agrees, transitions_agree}
use Rattle.uses.specs.Walks.{Met, Walkable, Walked}
use Rattle.uses.proofs.Scanned.{place-first, place-neither, place-second}
use Rattle.uses.proofs.Walks.{use-place}
use Rattle.uses.proofs.walking.walk_agrees.Given as goal

-- the first k places are walked to the end
pub record PlacesWalked (a : Arrays) (s : List ℕ) (c p q to k : ℕ) : Type 0 where
  pub each : (h : ℕ) → h < k → Walked a s c h p q to to

pub places-none : (a : Arrays) (s : List ℕ) (c p q to : ℕ) → PlacesWalked a s c p q to 0
places-none a s c p q to = record { each = λ h l. absurd (omega arith) }

pub places-next : {a : Arrays} {s : List ℕ} {c p q to k : ℕ} → PlacesWalked a s c p q to k → Walked a s c k p q to to →
    PlacesWalked a s c p q to (k + 1)
places-next {a} {s} {c} {p} {q} {to} {k} places here = record { each = λ h l. go h l (eqb h k) refl }
  where
    go : (h : ℕ) → h < k + 1 → (b : Bool) → eqb h k ≡ b → Walked a s c h p q to to
    go h l true z = subst (λ (x : ℕ). Walked a s c x p q to to) (sym (eqb-true h k z)) here
    go h l false z = let n = eqb-false h k z in places.each h (omega arith)

module _ {s : List ℕ} {c : ℕ} {lows lasts : List ℕ} (within : UsesWithin s c lows lasts) (a : Arrays) where
  -- there is no use before the first
  met-before : Searchable s c → (k p q from : ℕ) → k < max_arity → 1 ≤ p → from ≤ c → from ≤ get_or lows p 0 →
      Met a s c k p q from
  met-before r k p q from place some inside low = record {
    each = λ y h e. absurd
        (omega (
          arith,
          within.above y k (omega arith)
              (use-place s (transition_bytes * y) k p (r.padded.each y (omega arith)) place some e),
          ap (λ (z : ℕ). get_or lows z 0) e,
        ));
  }

  pub walked-before : {n k p q to : ℕ} → Walkable s c n k p q to → (from : ℕ) → from ≤ to → from ≤ get_or lows p 0 →
      from ≤ get_or lows q 0 → Walked a s c k p q from from
  walked-before {n} {k} {p} {q} {to} w from inside low other =
      let known : from ≤ c = omega (arith, w.inside) in record {
        first = met-before w.searchable k p q from w.place w.first_some known low;
        second = met-before w.searchable k q p from w.place w.second-some known other;
      }

  module _ (p q : ℕ) {to w : ℕ} (end : to ≡ max (get_or lasts p 0) (get_or lasts q 0))
      (wide : (i : ℕ) → i < to → arity_of s (transition_bytes * i) ≤ w) (places : PlacesWalked a s c p q to w) where
    place-agreed : (i k : ℕ) → i < c → k < arity_of s (transition_bytes * i) →
        place_agrees a s c (transition_bytes * i) p q k ≡ true
    place-agreed i k h l = go (eqb (arg_of s at k) p) refl (eqb (arg_of s at k) q) refl
      where
        at : ℕ
        at = transition_bytes * i

        inside : get_or lasts (arg_of s at k) 0 ≤ to → (i < to) × (k < w)
        inside d = let o : i < to = omega (arith, within.below i k h l) in (o, omega (arith, wide i o))

        go : (b : Bool) → eqb (arg_of s at k) p ≡ b → (d : Bool) → eqb (arg_of s at k) q ≡ d →
            place_agrees a s c at p q k ≡ true
        go true e d f =
            let z = eqb-true (arg_of s at k) p e in
            let (o, r) = inside (omega (arith, ap (λ (x : ℕ). get_or lasts x 0) z)) in
            sym (place-first a s c at p q k refl refl z (sym ((places.each k r).first.each i o z)))
        go false e true f =
            let z = eqb-true (arg_of s at k) q f in
            let (o, r) = inside (omega (arith, ap (λ (x : ℕ). get_or lasts x 0) z)) in
            sym (place-second a s c at p q k refl refl refl (eqb-false (arg_of s at k) p e) z
            (sym ((places.each k r).second.each i o z)))
        go false e false f =
            sym (place-neither a s c at p q k refl refl refl (eqb-false (arg_of s at k) p e)
            (eqb-false (arg_of s at k) q f))

    transition-agreed : (i : ℕ) → i < c → transition_agrees a s c p q i ≡ true
    unfolding transition_agrees
    transition-agreed i h =
        at_every (place_agrees a s c (transition_bytes * i) p q) 0 (arity_of s (transition_bytes * i))
        (λ k _ l. place-agreed i k h (omega arith))

    pub walked_all : transitions_agree a s c p q ≡ true
    walked_all = at_every (transition_agrees a s c p q) 0 c (λ i _ h. transition-agreed i (omega arith))

abbrev pub invariant-loop-k : goal.invariant-loop-k
invariant-loop-k l = PlacesWalked (arrays_in l.setting l.frames) l.setting.transitions.now l.setting.count l.p l.q l.to l.k

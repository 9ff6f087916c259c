-- What a split starts from: one part of all states, split by class.
use mathlib.Core.Bool.{Bool, false, true, true≢false}
use mathlib.Core.List.{List, []}
use mathlib.Core.Logic.{◌≢◌}
use mathlib.Core.Path.{◌∙◌, ◌≡◌, ap, refl, sym}
use Prim.Native.Nat.{◌≤◌, suc, zero, ℕ}
use native.Mathlib.Omega.{arith}
use Rattle.automata.specs.Automaton.{Automaton, accepting, states}
use Rattle.automata.specs.Coaccessible.{all_coaccessible, coaccessible}
use Rattle.automata.specs.Distinguishable.{distinguishable}
use Rattle.automata.specs.Order.{rising}
use Rattle.automata.specs.Valid.{states_in_range}
use Rattle.fields.specs.View.{Viewed, viewed}
use Rattle.fingerprints.specs.Fingerprints.{ClassPrints}
use Rattle.lists.specs.Tests.{bit}
use Rattle.table.specs.Layout.{transitions_in}
use Rattle.partition.specs.Parts.{Grouped, Parts, Whole, part_of}
use Rattle.partition.specs.Splits.{Regrouped, Shared, key_of}
use Rattle.automata.proofs.Distinguishable.{separated-distinguishable}
use Rattle.automata.proofs.Symmetry.{separated-sym}
use Rattle.automata.proofs.Valid.{ranged-fits}
use Rattle.fields.proofs.Views.{viewed-class, viewed-ranged, viewed-states}
use Rattle.fingerprints.proofs.Equivalent.{useful-separated}
use Rattle.lists.proofs.Intervals.{every-at}
use Rattle.partition.proofs.Regrouping.{regrouped-key, regrouped-sound}

pub whole-grouped : {n : ℕ} {m : List ℕ} → n ≤ 255 → Whole n m → Grouped n m
whole-grouped {n} {m} few w = record {
  size = w.size;
  few = few;
  none = w.none;
  some = λ q a b. omega (arith, w.each q a b);
  below = below;
  own = own;
}
  where
    below : (q : ℕ) → q ≤ n → part_of m q ≤ q
    below zero h = omega (arith, w.none)
    below (suc q) h = omega (arith, w.each (suc q) (omega arith) h)

    own : (q : ℕ) → q ≤ n → part_of m (part_of m q) ≡ part_of m q
    own zero h = ap (part_of m) w.none
    own (suc q) h =
        let e = w.each (suc q) (omega arith) h in
        ap (part_of m) e ∙ w.each 1 (omega arith) (omega arith) ∙ sym e

bit-same : (a b : Bool) → bit a ≡ bit b → a ≡ b
bit-same true true e = refl
bit-same true false e = absurd (omega arith)
bit-same false true e = absurd (omega arith)
bit-same false false e = refl

module _ (cl s : List ℕ) (n c : ℕ) (view : Viewed cl s n c) (rises : rising (transitions_in s c) ≡ true)
    (useful : all_coaccessible (viewed cl s n c) ≡ true) {m keys m' : List ℕ} {b : Bool} (whole : Whole n m)
    (classes : ClassPrints cl n keys) (split : Regrouped n (key_of keys) m m' b) where
  abbrev A : Automaton
  A = viewed cl s n c

  ranged : states_in_range A ≡ true
  ranged = viewed-ranged cl s n c view.over

  many : states A ≡ n
  many = viewed-states cl s n c

  key-class : (q : ℕ) → q ≤ n → key_of keys q ≡ bit (accepting A q)
  key-class zero l = classes.none
  key-class (suc q) l =
      classes.each (suc q) (omega arith) l ∙ ap bit (sym (viewed-class cl s n c (suc q) (omega arith) l))

  same_class : (p q : ℕ) → p ≤ states A → q ≤ states A → (distinguishable A p q ≡ true → ⊥) →
      accepting A p ≡ accepting A q
  same_class p q h l d = go (accepting A p) (accepting A q) refl refl
    where
      apart : accepting A p ≢ accepting A q → ⊥
      apart ne = d (separated-distinguishable A (ranged-fits A ranged) [] p q h l ne)

      go : (x y : Bool) → accepting A p ≡ x → accepting A q ≡ y → x ≡ y
      go true true e f = refl
      go true false e f = absurd (apart (λ w. true≢false (sym e ∙ w ∙ f)))
      go false true e f = absurd (apart (λ w. true≢false (sym f ∙ sym w ∙ e)))
      go false false e f = refl

  shared : Shared A (key_of keys)
  shared p q h l d =
      key-class p (omega (arith, many)) ∙ ap bit (same_class p q h l d) ∙ sym (key-class q (omega (arith, many)))

  zero-apart : (q : ℕ) → 1 ≤ q → q ≤ states A → distinguishable A q 0 ≡ true
  zero-apart q a h =
      useful-separated A ranged rises q (every-at (coaccessible A) 1 (states A) useful q a (omega arith))

  whole-sound : (p q : ℕ) → p ≤ states A → q ≤ states A → (distinguishable A p q ≡ true → ⊥) → part_of m p ≡ part_of m q
  whole-sound zero zero h l d = refl
  whole-sound zero (suc q) h l d = absurd (d (separated-sym A (suc q) 0 (zero-apart (suc q) (omega arith) l)))
  whole-sound (suc p) zero h l d = absurd (d (zero-apart (suc p) (omega arith) h))
  whole-sound (suc p) (suc q) h l d =
      whole.each (suc p) (omega arith) (omega (arith, many))
      ∙ sym (whole.each (suc q) (omega arith) (omega (arith, many)))

  pub class-parts : Parts A m'
  class-parts = record {
    class = λ p q h l e. bit-same (accepting A p) (accepting A q) (
        sym (key-class p (omega (arith, many)))
        ∙ regrouped-key grouped split p (omega (arith, many))
        ∙ ap (key_of keys) e
        ∙ sym (regrouped-key grouped split q (omega (arith, many)))
        ∙ key-class q (omega (arith, many))
        );
    sound = regrouped-sound grouped split A many shared whole-sound;
  }
    where
      grouped : Grouped n m
      grouped = whole-grouped view.states whole

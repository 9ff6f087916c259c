-- A scan looks only between the first and the last use of two states, because any other transition agrees.
use mathlib.Core.Bool.{Bool, false, true}
use mathlib.Core.List.{List}
use mathlib.Core.Path.{◌∙◌, ◌≡◌, ap, refl, sym}
use Prim.Native.Nat.{◌+◌, ◌<◌, ◌≤◌, max, min, ℕ}
use native.Mathlib.Omega.{arith}
use lib.Dec.{eqb, ltb}
use lib.ListN.{get_or}
use borrow.Author.Tests.{eqb-false, eqb-true, ltb-false, ltb-true}
use Rattle.uses.specs.Spans.{UsesWithin}
use Rattle.uses.specs.Uses.{Arrays, transition_agrees, transitions_agree}
use Rattle.lists.proofs.Intervals.{at_every}
use Rattle.uses.proofs.Scanned.{agrees-unused, hint-at}

-- the transitions below i agree; i may be beyond the end
pub record AgreesBelow (a : Arrays) (s : List ℕ) (c p q i : ℕ) : Type 0 where
  pub each : (x : ℕ) → x < i → x < c → transition_agrees a s c p q x ≡ true

module _ {a : Arrays} {s : List ℕ} {c p q i : ℕ} where
  pub agrees-next : AgreesBelow a s c p q i → {b : Bool} → b ≡ transition_agrees a s c p q i → b ≡ true →
      AgreesBelow a s c p q (i + 1)
  agrees-next inv {b} e d = record { each = λ x h l. go x h l (eqb x i) refl }
    where
      go : (x : ℕ) → x < i + 1 → x < c → (y : Bool) → eqb x i ≡ y → transition_agrees a s c p q x ≡ true
      go x h l true z = ap (transition_agrees a s c p q) (eqb-true x i z) ∙ sym e ∙ d
      go x h l false z = let n = eqb-false x i z in inv.each x (omega arith) l

  pub agrees-broken : AgreesBelow a s c p q i → i < c → {b : Bool} → b ≡ transition_agrees a s c p q i → b ≡ false →
      false ≡ transitions_agree a s c p q
  agrees-broken _ h e d = sym ((hint-at a s c p q i h e).refused d)

module _ (a : Arrays) (s : List ℕ) (c p q : ℕ) {lows lasts : List ℕ} (within : UsesWithin s c lows lasts) where
  pub agrees-before : {from : ℕ} → from ≡ min (get_or lows p 0) (get_or lows q 0) → AgreesBelow a s c p q from
  agrees-before e = record {
    each = λ x h l. agrees-unused a s c p q x
        (λ k n d. omega (arith, within.above x k l n, ap (λ (z : ℕ). get_or lows z 0) d))
        (λ k n d. omega (arith, within.above x k l n, ap (λ (z : ℕ). get_or lows z 0) d));
  }

  pub agrees-past : {i to : ℕ} → AgreesBelow a s c p q i → to ≡ max (get_or lasts p 0) (get_or lasts q 0) → to ≤ i →
      true ≡ transitions_agree a s c p q
  agrees-past {i} inv e past =
      sym (at_every (transition_agrees a s c p q) 0 c (λ x _ h. go x (omega arith) (ltb x i) refl))
    where
      go : (x : ℕ) → x < c → (b : Bool) → ltb x i ≡ b → transition_agrees a s c p q x ≡ true
      go x l true z = inv.each x (ltb-true x i z) l
      go x l false z = let o = ltb-false x i z in
          agrees-unused a s c p q x
          (λ k n d. omega (arith, within.below x k l n, ap (λ (z : ℕ). get_or lasts z 0) d))
          (λ k n d. omega (arith, within.below x k l n, ap (λ (z : ℕ). get_or lasts z 0) d))

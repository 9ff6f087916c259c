-- No use lies between two uses that the walk finds one after the other, so all that it has passed agree. At the end
-- that is every use.
use mathlib.Core.Bool.{Bool, false, true}
use mathlib.Core.List.{List}
use mathlib.Core.Path.{◌≡◌, refl, subst}
use Prim.Native.Nat.{◌*◌, ◌-◌, ◌<◌, ◌≤◌, ℕ, ◌+◌}
use native.Mathlib.Omega.{arith}
use lib.Dec.{ltb}
use borrow.Author.Tests.{ltb-false, ltb-true}
use Rattle.format.specs.Format.{transition_bytes}
use Rattle.table.specs.Layout.{arg_of}
use Rattle.uses.specs.Settings.{arrays_in}
use Rattle.uses.specs.Uses.{Arrays, swap_agrees}
use Rattle.uses.specs.Walks.{AtUse, Met, NextUse, Walked}
use Rattle.uses.proofs.walking.place_agrees_in_step.Given as goal

pub record Standing (a : Arrays) (s : List ℕ) (c k p q to i x : ℕ) : Type 0 where
  pub first : AtUse s k p to i
  pub second : AtUse s k q to x
  pub walked : Walked a s c k p q i x

met-past : {a : Arrays} {s : List ℕ} {c k p q to i j : ℕ} → Met a s c k p q i → NextUse s k p i to j →
    Met a s c k p q j
met-past {a} {s} {c} {k} {p} {q} {to} {i} {j} met next = record { each = λ y h e. go y h e (ltb y i) refl }
  where
    go : (y : ℕ) → y < j → arg_of s (transition_bytes * y) k ≡ p → (b : Bool) → ltb y i ≡ b →
        swap_agrees a s c (transition_bytes * y) k q ≡ true
    go y h e true z = met.each y (ltb-true y i z) e
    go y h e false z = absurd (next.none y (ltb-false y i z) h e)

module _ {a : Arrays} {s : List ℕ} {c k p q to i x : ℕ} where
  pub standing : Walked a s c k p q i x → {j y : ℕ} → NextUse s k p i to j → NextUse s k q x to y →
      Standing a s c k p q to j y
  standing w u v = record {
    first = u.found;
    second = v.found;
    walked = record { first = met-past w.first u; second = met-past w.second v };
  }

  pub standing-end : Standing a s c k p q to i x → to ≤ i → to ≤ x → Walked a s c k p q to to
  standing-end z h l =
      let first : i ≡ to = omega (arith, z.first.inside) in
      let second : x ≡ to = omega (arith, z.second.inside) in
      subst (λ (y : ℕ). Walked a s c k p q to y) second
      (subst (λ (y : ℕ). Walked a s c k p q y x) first z.walked)

abbrev pub invariant-loop-i : goal.invariant-loop-i
invariant-loop-i l = Standing (arrays_in l.setting l.frames) l.setting.transitions.now l.setting.count l.k l.p l.q l.to l.i l.x

abbrev pub decreases-loop-i : goal.decreases-loop-i
decreases-loop-i l = (l.to - l.i) + (l.to - l.x)

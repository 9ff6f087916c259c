-- None of the transitions passed has the state as argument k.
use mathlib.Core.Bool.{Bool, false, true}
use mathlib.Core.List.{List}
use mathlib.Core.Path.{◌≡◌, refl, subst}
use Prim.Native.Nat.{◌*◌, ◌+◌, ◌<◌, ◌≤◌, ℕ}
use native.Mathlib.Omega.{arith}
use lib.Dec.{eqb}
use borrow.Author.Tests.{eqb-false, eqb-true}
use Rattle.format.specs.Format.{transition_bytes}
use Rattle.table.specs.Layout.{arg_of}
use Rattle.uses.proofs.walking.next_with.Given as goal

pub record Passed (s : List ℕ) (k p from to i : ℕ) : Type 0 where
  pub on : from ≤ i
  pub inside : i ≤ to
  pub none : (y : ℕ) → from ≤ y → y < i → arg_of s (transition_bytes * y) k ≡ p → ⊥

pub passed-next : {s : List ℕ} {k p from to i : ℕ} → Passed s k p from to i → i < to →
    (arg_of s (transition_bytes * i) k ≡ p → ⊥) → Passed s k p from to (i + 1)
passed-next {s} {k} {p} {from} {to} {i} w h other = record {
  on = omega (arith, w.on);
  inside = omega arith;
  none = λ y l d e. go y l d e (eqb y i) refl;
}
  where
    go : (y : ℕ) → from ≤ y → y < i + 1 → arg_of s (transition_bytes * y) k ≡ p → (b : Bool) → eqb y i ≡ b → ⊥
    go y l d e true z = other (subst (λ (x : ℕ). arg_of s (transition_bytes * x) k ≡ p) (eqb-true y i z) e)
    go y l d e false z = let n = eqb-false y i z in w.none y l (omega arith) e

abbrev pub invariant-loop-i : goal.invariant-loop-i
invariant-loop-i l = Passed l.transitions l.k l.p l.from l.to l.i

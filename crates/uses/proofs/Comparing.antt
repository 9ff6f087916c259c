-- Tests that compare two numbers first: the value of each return of the code.
use mathlib.Core.Bool.{Bool, ◌&&◌, ◌||◌, false, true}
use mathlib.Core.Path.{◌∙◌, ◌≡◌}
use Prim.Native.Nat.{ℕ}
use lib.Dec.{eqb}
use borrow.Author.Tests.{eq-eqb, ne_eqb}

pub or-eq : (x y : ℕ) (b : Bool) → x ≡ y → true ≡ (eqb x y || b)
or-eq x y b e = rw (eq-eqb x y e)

pub or-ne : (x y : ℕ) (b : Bool) {c : Bool} → (x ≡ y → ⊥) → c ≡ b → c ≡ (eqb x y || b)
or-ne x y b n d = d ∙ rw (ne_eqb x y n)

pub and-ne : (x y : ℕ) (b : Bool) → (x ≡ y → ⊥) → false ≡ (eqb x y && b)
and-ne x y b n = rw (ne_eqb x y n)

pub and-eq : (x y : ℕ) (b : Bool) {c : Bool} → x ≡ y → c ≡ b → c ≡ (eqb x y && b)
and-eq x y b e d = d ∙ rw (eq-eqb x y e)

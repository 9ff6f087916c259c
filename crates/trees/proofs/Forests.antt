-- The first trees of a forest and those after them: their number, their listings, and forests put together.
use mathlib.Core.List.{◌++◌, append_assoc}
use mathlib.Core.Path.{◌∙◌, ◌≡◌, ap, refl, sym}
use Prim.Native.Nat.{◌+◌, ◌-◌, ◌≤◌, suc, zero, ℕ}
use native.Mathlib.Nat.{sub-zero}
use native.Mathlib.Omega.{arith}
use Rattle.trees.specs.Listing.{first_trees, later_trees, listing, listings}
use Rattle.trees.specs.Tree.{Forest, ◌⧺◌, cons, count, nil}

pub listings-append : (f g : Forest) → listings (f ⧺ g) ≡ listings f ++ listings g
listings-append nil g = refl
listings-append (cons t f) g = rw (listings-append f g) (sym (append_assoc (listing t) (listings f) (listings g)))

pub append-none : (f : Forest) → f ⧺ nil ≡ f
append-none nil = refl
append-none (cons t f) = ap (cons t) (append-none f)

pub first-later : (k : ℕ) (f : Forest) → first_trees k f ⧺ later_trees k f ≡ f
first-later zero f = refl
first-later (suc k) nil = refl
first-later (suc k) (cons t f) = ap (cons t) (first-later k f)

pub listings-split : (k : ℕ) (f : Forest) → listings (first_trees k f) ++ listings (later_trees k f) ≡ listings f
listings-split k f = sym (listings-append (first_trees k f) (later_trees k f)) ∙ ap listings (first-later k f)

pub first_count : (k : ℕ) (f : Forest) → k ≤ count f → count (first_trees k f) ≡ k
first_count zero f h = refl
first_count (suc k) nil h = absurd (omega arith)
first_count (suc k) (cons t f) h = ap suc (first_count k f (omega arith))

pub later-count : (k : ℕ) (f : Forest) → count (later_trees k f) ≡ count f - k
later-count zero f = sym (sub-zero (count f))
later-count (suc k) nil = omega arith
later-count (suc k) (cons t f) = omega (arith, later-count k f)

-- a forest before others
pub first-whole : (f g : Forest) → first_trees (count f) (f ⧺ g) ≡ f
first-whole nil g = refl
first-whole (cons t f) g = ap (cons t) (first-whole f g)

pub later-whole : (f g : Forest) → later_trees (count f) (f ⧺ g) ≡ g
later-whole nil g = refl
later-whole (cons t f) g = later-whole f g

-- the first trees, and the first of those after them
first-none : (k : ℕ) → first_trees k nil ≡ nil
first-none zero = refl
first-none (suc k) = refl

pub first-both : (k p : ℕ) (f : Forest) → first_trees k f ⧺ first_trees p (later_trees k f) ≡ first_trees (p + k) f
first-both zero p f = let e : p ≡ p + 0 = omega arith in ap (λ (n : ℕ). first_trees n f) e
first-both (suc k) p nil = first-none p ∙ sym (first-none (p + suc k))
first-both (suc k) p (cons t f) =
    let e : p + suc k ≡ suc (p + k) = omega arith in rw e (ap (cons t) (first-both k p f))

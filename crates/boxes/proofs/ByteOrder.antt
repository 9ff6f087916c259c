-- Byte by byte, `not_after` is a total order, and its words: equal lists, a beginning, or the lesser byte where they differ.
use mathlib.Core.Bool.{Bool, ◌&&◌, false, false≢true, true}
use mathlib.Core.List.{List, [], ◌++◌, ◌∷◌}
use mathlib.Core.Logic.{◌↔◌, ◌⊎◌, inl, inr}
use mathlib.Core.Path.{◌≡◌, refl}
use Prim.Native.Nat.{◌<◌, ℕ}
use native.Mathlib.Omega.{arith}
use lib.Dec.{eqb, ltb}
use borrow.Author.Tests.{eq-eqb, eqb-false, eqb-true, lt-ltb, ltb-false, ltb-true}
use Rattle.boxes.specs.ByteOrder.{Beginning, Lesser, not_after}
use Rattle.lists.proofs.Tests.{and_both, and_left, and_right, or_cases, or_left, or_right}

-- ---- the first byte

-- what decides between two lists that both go on
pub heads-decide : (x y : ℕ) (xs ys : List ℕ) → not_after (x ∷ xs) (y ∷ ys) ≡ true →
    (x < y) ⊎ ((x ≡ y) × (not_after xs ys ≡ true))
heads-decide x y xs ys e = go (or_cases (ltb x y) _ e)
  where
    go : (ltb x y ≡ true) ⊎ ((eqb x y && not_after xs ys) ≡ true) → (x < y) ⊎ ((x ≡ y) × (not_after xs ys ≡ true))
    go (inl h) = inl (ltb-true x y h)
    go (inr h) = inr (eqb-true x y (and_left _ _ h), and_right (eqb x y) _ h)

pub lesser-head : (x y : ℕ) (xs ys : List ℕ) → x < y → not_after (x ∷ xs) (y ∷ ys) ≡ true
lesser-head x y xs ys h = or_left (ltb x y) _ (lt-ltb x y h)

pub equal-heads : (x y : ℕ) (xs ys : List ℕ) → x ≡ y → not_after xs ys ≡ true → not_after (x ∷ xs) (y ∷ ys) ≡ true
equal-heads x y xs ys e h = or_right (ltb x y) _ (and_both (eq-eqb x y e) h)

-- numbers are less, equal or greater
compared : (x y : ℕ) → (x < y) ⊎ ((x ≡ y) ⊎ (y < x))
compared x y = go (ltb x y) refl (eqb x y) refl
  where
    go : (b : Bool) → ltb x y ≡ b → (c : Bool) → eqb x y ≡ c → (x < y) ⊎ ((x ≡ y) ⊎ (y < x))
    go true d c e = inl (ltb-true x y d)
    go false d true e = inr (inl (eqb-true x y e))
    go false d false e =
        let p = ltb-false x y d in
        let q = eqb-false x y e in
        inr (inr (omega arith))

-- ---- a total order

pub not-after-same : (xs : List ℕ) → not_after xs xs ≡ true
not-after-same [] = refl
not-after-same (x ∷ xs) = equal-heads x x xs xs refl (not-after-same xs)

pub not-after-trans : (xs ys zs : List ℕ) → not_after xs ys ≡ true → not_after ys zs ≡ true → not_after xs zs ≡ true
not-after-trans [] ys zs d e = refl
not-after-trans (x ∷ xs) [] zs d e = absurd (false≢true d)
not-after-trans (x ∷ xs) (y ∷ ys) [] d e = absurd (false≢true e)
not-after-trans (x ∷ xs) (y ∷ ys) (z ∷ zs) d e =
    go (not-after-trans xs ys zs) (heads-decide x y xs ys d) (heads-decide y z ys zs e)
  where
    go : (not_after xs ys ≡ true → not_after ys zs ≡ true → not_after xs zs ≡ true) →
        (x < y) ⊎ ((x ≡ y) × (not_after xs ys ≡ true)) → (y < z) ⊎ ((y ≡ z) × (not_after ys zs ≡ true)) →
        not_after (x ∷ xs) (z ∷ zs) ≡ true
    go ih (inl h) (inl k) = lesser-head x z xs zs (omega arith)
    go ih (inl h) (inr k) = lesser-head x z xs zs (omega arith)
    go ih (inr h) (inl k) = lesser-head x z xs zs (omega arith)
    go ih (inr h) (inr k) = equal-heads x z xs zs (omega arith) (ih h.1 k.1)

pub not-after-equal : (xs ys : List ℕ) → not_after xs ys ≡ true → not_after ys xs ≡ true → xs ≡ ys
not-after-equal [] [] d e = refl
not-after-equal [] (y ∷ ys) d e = absurd (false≢true e)
not-after-equal (x ∷ xs) [] d e = absurd (false≢true d)
not-after-equal (x ∷ xs) (y ∷ ys) d e =
    go (not-after-equal xs ys) (heads-decide x y xs ys d) (heads-decide y x ys xs e)
  where
    go : (not_after xs ys ≡ true → not_after ys xs ≡ true → xs ≡ ys) →
        (x < y) ⊎ ((x ≡ y) × (not_after xs ys ≡ true)) → (y < x) ⊎ ((y ≡ x) × (not_after ys xs ≡ true)) →
        ◌≡◌ {A = List ℕ} (x ∷ xs) (y ∷ ys)
    go ih (inl h) (inl k) = absurd (omega arith)
    go ih (inl h) (inr k) = absurd (omega arith)
    go ih (inr h) (inl k) = absurd (omega arith)
    go ih (inr h) (inr k) = cc (h.0, ih h.1 k.1)

pub not-after-total : (xs ys : List ℕ) → (not_after xs ys ≡ true) ⊎ (not_after ys xs ≡ true)
not-after-total [] ys = inl refl
not-after-total (x ∷ xs) [] = inr refl
not-after-total (x ∷ xs) (y ∷ ys) = go (compared x y) (not-after-total xs ys)
  where
    go : (x < y) ⊎ ((x ≡ y) ⊎ (y < x)) → (not_after xs ys ≡ true) ⊎ (not_after ys xs ≡ true) →
        (not_after (x ∷ xs) (y ∷ ys) ≡ true) ⊎ (not_after (y ∷ ys) (x ∷ xs) ≡ true)
    go (inl h) r = inl (lesser-head x y xs ys h)
    go (inr (inl e)) (inl h) = inl (equal-heads x y xs ys e h)
    go (inr (inl e)) (inr h) = inr (equal-heads y x ys xs (omega arith) h)
    go (inr (inr h)) r = inr (lesser-head y x ys xs h)

-- ---- the words

-- bytes that both lists start with decide nothing
pub shared_start : (s xs ys : List ℕ) → not_after xs ys ≡ true → not_after (s ++ xs) (s ++ ys) ≡ true
shared_start [] xs ys h = h
shared_start (x ∷ s) xs ys h = equal-heads x x (s ++ xs) (s ++ ys) refl (shared_start s xs ys h)

beginning-more : (x y : ℕ) (xs ys : List ℕ) → x ≡ y → Beginning xs ys → Beginning (x ∷ xs) (y ∷ ys)
beginning-more x y xs ys e b = record { byte = b.byte; rest = b.rest; longer = cc b.longer }

lesser-more : (x y : ℕ) (xs ys : List ℕ) → x ≡ y → Lesser xs ys → Lesser (x ∷ xs) (y ∷ ys)
lesser-more x y xs ys e l = record {
  shared = x ∷ l.shared;
  lower = l.lower;
  higher = l.higher;
  after_lower = l.after_lower;
  after_higher = l.after_higher;
  below = l.below;
  first = cc l.first;
  second = cc l.second;
}

beginning-not-after : (xs zs : List ℕ) → not_after xs (xs ++ zs) ≡ true
beginning-not-after [] zs = refl
beginning-not-after (x ∷ xs) zs = equal-heads x x xs (xs ++ zs) refl (beginning-not-after xs zs)

-- the first list does not come after the second exactly if it is equal, a beginning, or lesser at the first difference
pub not-after-iff : (xs ys : List ℕ) → (not_after xs ys ≡ true) ↔ ((xs ≡ ys) ⊎ (Beginning xs ys ⊎ Lesser xs ys))
not-after-iff xs ys = (to xs ys, from xs ys)
  where
    to : (xs ys : List ℕ) → not_after xs ys ≡ true → (xs ≡ ys) ⊎ (Beginning xs ys ⊎ Lesser xs ys)
    to [] [] e = inl refl
    to [] (y ∷ ys) e = inr (inl (record { byte = y; rest = ys; longer = refl }))
    to (x ∷ xs) [] e = absurd (false≢true e)
    to (x ∷ xs) (y ∷ ys) e = go (to xs ys) (heads-decide x y xs ys e)
      where
        go : (not_after xs ys ≡ true → (xs ≡ ys) ⊎ (Beginning xs ys ⊎ Lesser xs ys)) →
            (x < y) ⊎ ((x ≡ y) × (not_after xs ys ≡ true)) →
            (◌≡◌ {A = List ℕ} (x ∷ xs) (y ∷ ys)) ⊎ (Beginning (x ∷ xs) (y ∷ ys) ⊎ Lesser (x ∷ xs) (y ∷ ys))
        go ih (inl h) =
            inr (inr (record {
              shared = [];
              lower = x;
              higher = y;
              after_lower = xs;
              after_higher = ys;
              below = h;
              first = refl;
              second = refl;
            }))
        go ih (inr h) = more (ih h.1)
          where
            more : (xs ≡ ys) ⊎ (Beginning xs ys ⊎ Lesser xs ys) →
                (◌≡◌ {A = List ℕ} (x ∷ xs) (y ∷ ys)) ⊎ (Beginning (x ∷ xs) (y ∷ ys) ⊎ Lesser (x ∷ xs) (y ∷ ys))
            more (inl e) = inl (cc (h.0, e))
            more (inr (inl b)) = inr (inl (beginning-more x y xs ys h.0 b))
            more (inr (inr l)) = inr (inr (lesser-more x y xs ys h.0 l))

    from : (xs ys : List ℕ) → (xs ≡ ys) ⊎ (Beginning xs ys ⊎ Lesser xs ys) → not_after xs ys ≡ true
    from xs ys (inl e) = rw e (not-after-same ys)
    from xs ys (inr (inl b)) = rw b.longer (beginning-not-after xs (b.byte ∷ b.rest))
    from xs ys (inr (inr l)) =
        rw (l.first, l.second) (shared_start l.shared (l.lower ∷ l.after_lower) (l.higher ∷ l.after_higher)
        (lesser-head l.lower l.higher l.after_lower l.after_higher l.below))

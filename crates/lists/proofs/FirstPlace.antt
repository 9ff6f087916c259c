-- Laws of the first place in a list that passes a test.
use mathlib.Core.Bool.{Bool, cond, false, true, true≢false}
use mathlib.Core.List.{List, [], ◌++◌, ◌∷◌}
use mathlib.Core.Logic.{inl, inr}
use mathlib.Core.Path.{◌∙◌, ◌≡◌, ap, refl, sym}
use Prim.Native.Nat.{◌+◌, ◌<◌, ◌≤◌, suc, zero, ℕ}
use native.Mathlib.Nat.{zero-add}
use native.Mathlib.Omega.{arith}
use lib.ListN.{get_or, length}
use Rattle.lists.specs.Positions.{first_place, shift}
use Rattle.lists.specs.Tests.{◌∈◌}

-- the place further from the start
pub shift-some : (n : ℕ) → 1 ≤ n → shift n ≡ suc n
shift-some zero h = absurd (omega arith)
shift-some (suc n) h = refl

shift_none : (n : ℕ) → shift n ≡ 0 → n ≡ 0
shift_none zero e = refl
shift_none (suc n) e = absurd (omega arith)

shift-least : (n i : ℕ) → shift n ≡ suc i → (j : ℕ) × (i ≡ suc j) × (n ≡ suc j)
shift-least zero i e = absurd (omega arith)
shift-least (suc n) i e = (n, omega arith, refl)

module _ {A : Type 0} (p : A → Bool) where
  -- the element at i passes, and none before it
  pub record FirstAt (xs : List A) (d : A) (i : ℕ) : Type 0 where
    pub within : i < length xs
    pub passes : p (get_or xs i d) ≡ true
    pub first : (j : ℕ) → j < i → p (get_or xs j d) ≡ false

  pub first-none : (xs : List A) → ((x : A) → x ∈ xs → p x ≡ false) → first_place p xs ≡ 0
  first-none [] h = refl
  first-none (x ∷ xs) h = rw (h x (inl refl), first-none xs (λ y i. h y (inr i)))

  pub none_passes : (xs : List A) → first_place p xs ≡ 0 → (x : A) → x ∈ xs → p x ≡ false
  none_passes [] e x i = elim i [ ]
  none_passes (y ∷ xs) e x i = go (λ f j. none_passes xs f x j) (p y) refl e i
    where
      go : (first_place p xs ≡ 0 → x ∈ xs → p x ≡ false) → (b : Bool) → p y ≡ b →
          cond b 1 (shift (first_place p xs)) ≡ 0 → x ∈ (y ∷ xs) → p x ≡ false
      go ih true t e i = absurd (omega arith)
      go ih false t e (inl q) = ap p q ∙ t
      go ih false t e (inr j) = ih (shift_none (first_place p xs) e) j

  -- what passes has a place
  pub first_some : (xs : List A) (x : A) → x ∈ xs → p x ≡ true → 1 ≤ first_place p xs
  first_some xs x i t = go (first_place p xs) refl
    where
      go : (n : ℕ) → first_place p xs ≡ n → 1 ≤ n
      go zero e = absurd (true≢false (sym t ∙ none_passes xs e x i))
      go (suc n) e = omega arith

  pub first-in : (xs : List A) → 1 ≤ first_place p xs → (x : A) × (x ∈ xs) × (p x ≡ true)
  first-in [] h = absurd (omega arith)
  first-in (x ∷ xs) h = go (first-in xs) (first_place p xs) refl (p x) refl h
    where
      go : (1 ≤ first_place p xs → (y : A) × (y ∈ xs) × (p y ≡ true)) → (n : ℕ) → first_place p xs ≡ n →
          (b : Bool) → p x ≡ b → 1 ≤ cond b 1 (shift n) → (y : A) × (y ∈ (x ∷ xs)) × (p y ≡ true)
      go ih n u true t h = (x, inl refl, t)
      go ih zero u false t h = absurd (omega arith)
      go ih (suc n) u false t h = let (y, i, e) = ih (omega arith) in (y, inr i, e)

  pub first-at : (xs : List A) (d : A) (i : ℕ) → first_place p xs ≡ suc i → FirstAt xs d i
  first-at [] d i e = absurd (omega arith)
  first-at (x ∷ xs) d i e = go (λ j. first-at xs d j) (p x) refl i e
    where
      later : (j : ℕ) → FirstAt xs d j → p x ≡ false → FirstAt (x ∷ xs) d (suc j)
      later j F t = record { within = omega (arith, F.within); passes = F.passes; first = before }
        where
          before : (k : ℕ) → k < suc j → p (get_or (x ∷ xs) k d) ≡ false
          before zero h = t
          before (suc k) h = F.first k (omega arith)

      go : ((j : ℕ) → first_place p xs ≡ suc j → FirstAt xs d j) → (b : Bool) → p x ≡ b → (i : ℕ) →
          cond b 1 (shift (first_place p xs)) ≡ suc i → FirstAt (x ∷ xs) d i
      go ih true t zero e = record { within = omega arith; passes = t; first = λ j h. absurd (omega arith) }
      go ih true t (suc i) e = absurd (omega arith)
      go ih false t zero e =
          let (j, f, g) = shift-least (first_place p xs) zero e in absurd (omega arith)
      go ih false t (suc i) e =
          let (j, f, g) = shift-least (first_place p xs) (suc i) e in later i (ih i (omega arith)) t

  pub first-length : (xs : List A) → first_place p xs ≤ length xs
  first-length [] = omega arith
  first-length (x ∷ xs) = go (first-length xs) (first_place p xs) refl (p x)
    where
      go : first_place p xs ≤ length xs → (n : ℕ) → first_place p xs ≡ n → (b : Bool) →
          cond b 1 (shift n) ≤ suc (length xs)
      go h n u true = omega arith
      go h zero u false = omega arith
      go h (suc n) u false = omega arith

  -- a place in the first of two lists, and one in the second if the first has none
  pub first-append : (xs ys : List A) → 1 ≤ first_place p xs → first_place p (xs ++ ys) ≡ first_place p xs
  first-append [] ys h = absurd (omega arith)
  first-append (x ∷ xs) ys h = go (first-append xs ys) (first_place p xs) refl (p x) h
    where
      go : (1 ≤ first_place p xs → first_place p (xs ++ ys) ≡ first_place p xs) → (n : ℕ) → first_place p xs ≡ n →
          (b : Bool) → 1 ≤ cond b 1 (shift n) → cond b 1 (shift (first_place p (xs ++ ys))) ≡ cond b 1 (shift n)
      go ih n u true h = refl
      go ih zero u false h = absurd (omega arith)
      go ih (suc n) u false h = ap shift (ih (omega arith) ∙ u)

  pub first-later : (xs ys : List A) → first_place p xs ≡ 0 → 1 ≤ first_place p ys →
      first_place p (xs ++ ys) ≡ length xs + first_place p ys
  first-later [] ys e h = sym (zero-add (first_place p ys))
  first-later (x ∷ xs) ys e h = go (λ f. first-later xs ys f h) (p x) e
    where
      go : (first_place p xs ≡ 0 → first_place p (xs ++ ys) ≡ length xs + first_place p ys) → (b : Bool) →
          cond b 1 (shift (first_place p xs)) ≡ 0 →
          cond b 1 (shift (first_place p (xs ++ ys))) ≡ suc (length xs) + first_place p ys
      go ih true e = absurd (omega arith)
      go ih false e =
          let q = ih (shift_none (first_place p xs) e) in
          shift-some (first_place p (xs ++ ys)) (omega arith) ∙ omega arith

-- Lists without duplicates, and how long they can be.
use mathlib.Core.Bool.{Bool, ◌||◌, cond, false, true}
use mathlib.Core.List.{List, [], ◌++◌, ◌∷◌, map}
use mathlib.Core.Logic.{◌⊎◌, inl, inr}
use mathlib.Core.Path.{◌∙◌, ◌≡◌, ap, refl, subst, sym}
use Prim.Native.Nat.{◌≤◌, suc, zero, ℕ}
use native.Mathlib.Omega.{arith}
use lib.ListN.{length, length-append}
use Rattle.lists.specs.Closure.{closure, elem}
use Rattle.lists.specs.Positions.{Pair, grid, row, up_from}
use Rattle.lists.specs.Tests.{Distinct, ◌∈◌, filter}
use Rattle.lists.proofs.Closure.{closure-fixed}
use Rattle.lists.proofs.Positions.{up_from-in}
use Rattle.lists.proofs.Tests.{append-in, filter-in, in_append_left, in_append_right, in_split, map-in}

module _ {A : Type 0} where
  pub filter-distinct : (p : A → Bool) (xs : List A) → Distinct xs → Distinct (filter p xs)
  filter-distinct p [] d = tt
  filter-distinct p (x ∷ xs) d = go (filter-distinct p xs d.1) (p x)
    where
      go : Distinct (filter p xs) → (b : Bool) → Distinct (cond b (x ∷ filter p xs) (filter p xs))
      go ih true = (λ i. d.0 (filter-in p xs x i).0, ih)
      go ih false = ih

  pub append-distinct : (xs ys : List A) → Distinct xs → Distinct ys →
      ((x : A) → x ∈ xs → x ∈ ys → ⊥) → Distinct (xs ++ ys)
  append-distinct [] ys d e h = e
  append-distinct (x ∷ xs) ys d e h =
      (λ i. go (append-in xs ys x i), append-distinct xs ys d.1 e (λ y i j. h y (inr i) j))
    where
      go : (x ∈ xs) ⊎ (x ∈ ys) → ⊥
      go (inl i) = d.0 i
      go (inr i) = h x (inl refl) i

-- a list without duplicates is no longer than a list that has a partner for each of its elements, none for two
module _ {A B : Type 0} (R : A → B → Type 0) (own : (x y : A) (z : B) → R x z → R y z → x ≡ y) where
  pub partners-length : (xs : List A) (zs : List B) → Distinct xs →
      ((x : A) → x ∈ xs → (z : B) × (z ∈ zs) × R x z) → length xs ≤ length zs
  partners-length [] zs d h = omega arith
  partners-length (x ∷ xs) zs d h = go (h x (inl refl)) (λ ys k. partners-length xs ys d.1 k)
    where
      go : (z : B) × (z ∈ zs) × R x z →
          ((ys : List B) → ((y : A) → y ∈ xs → (z : B) × (z ∈ ys) × R y z) → length xs ≤ length ys) →
          suc (length xs) ≤ length zs
      go (z, m, r) ih = split (in_split zs z m)
        where
          split : (a : List B) × (b : List B) × (zs ≡ a ++ (z ∷ b)) → suc (length xs) ≤ length zs
          split (a, b, e) =
              omega (arith, ih (a ++ b) rest, ap length e, length-append a (z ∷ b), length-append a b)
            where
              rest : (y : A) → y ∈ xs → (w : B) × (w ∈ (a ++ b)) × R y w
              rest y i = let (w, j, s) = h y (inr i) in
                  (w, side w s (append-in a (z ∷ b) w (subst (λ (l : List B). w ∈ l) e j)), s)
                where
                  side : (w : B) → R y w → (w ∈ a) ⊎ (w ∈ (z ∷ b)) → w ∈ (a ++ b)
                  side w s (inl j) = in_append_left a b w j
                  side w s (inr (inl q)) =
                      absurd (d.0 (rw (own x y z r (subst (R y) q s)) i))
                  side w s (inr (inr j)) = in_append_right a b w j

-- a list without duplicates is no longer than a list that holds all its elements
pub distinct-length : {A : Type 0} (xs ys : List A) → Distinct xs → ((x : A) → x ∈ xs → x ∈ ys) →
    length xs ≤ length ys
distinct-length {A} xs ys d h =
    partners-length (λ (x y : A). x ≡ y) (λ x y z p q. p ∙ sym q) xs ys d (λ x i. (x, h x i, refl))

-- a list without duplicates that is as long as a list that holds all its elements holds all of that list's
pub distinct-all : {A : Type 0} (xs ys : List A) → Distinct xs → ((x : A) → x ∈ xs → x ∈ ys) →
    length ys ≤ length xs → (y : A) → y ∈ ys → y ∈ xs
distinct-all {A = A} [] [] d h l y i = elim i [ ]
distinct-all [] (z ∷ ys) d h l y i = absurd (omega arith)
distinct-all {A} (x ∷ xs) ys d h l y i = go (in_split ys x (h x (inl refl))) (λ zs. distinct-all xs zs d.1)
  where
    go : (a : List A) × (b : List A) × (ys ≡ a ++ (x ∷ b)) →
        ((zs : List A) → ((z : A) → z ∈ xs → z ∈ zs) → length zs ≤ length xs → (z : A) → z ∈ zs → z ∈ xs) →
        y ∈ (x ∷ xs)
    go (a, b, e) ih = found (side y i)
      where
        side : (z : A) → z ∈ ys → (z ≡ x) ⊎ (z ∈ (a ++ b))
        side z j = split (append-in a (x ∷ b) z (subst (λ (l : List A). z ∈ l) e j))
          where
            split : (z ∈ a) ⊎ (z ∈ (x ∷ b)) → (z ≡ x) ⊎ (z ∈ (a ++ b))
            split (inl k) = inr (in_append_left a b z k)
            split (inr (inl q)) = inl q
            split (inr (inr k)) = inr (in_append_right a b z k)

        rest : (z : A) → z ∈ xs → z ∈ (a ++ b)
        rest z j = other (side z (h z (inr j)))
          where
            other : (z ≡ x) ⊎ (z ∈ (a ++ b)) → z ∈ (a ++ b)
            other (inl q) = absurd (d.0 (subst (λ (w : A). w ∈ xs) q j))
            other (inr k) = k

        found : (y ≡ x) ⊎ (y ∈ (a ++ b)) → y ∈ (x ∷ xs)
        found (inl q) = inl q
        found (inr k) =
            inr (ih (a ++ b) rest (omega (arith, ap length e, length-append a (x ∷ b), length-append a b)) y k)

module _ {A B : Type 0} where
  pub map-distinct : (f : A → B) (xs : List A) →
      ((x y : A) → x ∈ xs → y ∈ xs → f x ≡ f y → x ≡ y) → Distinct xs → Distinct (map f xs)
  map-distinct f [] h d = tt
  map-distinct f (x ∷ xs) h d =
      (λ i. go (map-in f xs (f x) i), map-distinct f xs (λ y z i j e. h y z (inr i) (inr j) e) d.1)
    where
      go : (y : A) × (y ∈ xs) × (f x ≡ f y) → ⊥
      go (y, i, e) = d.0 (rw (h x y (inl refl) (inr i) e) i)

pub up_from-distinct : (k n : ℕ) → Distinct (up_from k n)
up_from-distinct k zero = tt
up_from-distinct k (suc n) = (λ i. omega (arith, up_from-in (suc k) n k i), up_from-distinct (suc k) n)

row_in : (p : ℕ) (qs : List ℕ) (k : Pair) → k ∈ row p qs → (k.0 ≡ p) × (k.1 ∈ qs)
row_in p [] k x' = elim x' [ ]
row_in p (q ∷ qs) k (inl e) = (ap (λ (j : Pair). j.0) e, inl (ap (λ (j : Pair). j.1) e))
row_in p (q ∷ qs) k (inr i) = let r = row_in p qs k i in (r.0, inr r.1)

pub grid-in : (ps qs : List ℕ) (k : Pair) → k ∈ grid ps qs → (k.0 ∈ ps) × (k.1 ∈ qs)
grid-in [] qs k i = elim i [ ]
grid-in (p ∷ ps) qs k i = go (append-in (row p qs) (grid ps qs) k i) (λ j. grid-in ps qs k j)
  where
    go : (k ∈ row p qs) ⊎ (k ∈ grid ps qs) → (k ∈ grid ps qs → (k.0 ∈ ps) × (k.1 ∈ qs)) →
        (k.0 ∈ (p ∷ ps)) × (k.1 ∈ qs)
    go (inl j) ih = let r = row_in p qs k j in (inl r.0, r.1)
    go (inr j) ih = let r = ih j in (inr r.0, r.1)

row-distinct : (p : ℕ) (qs : List ℕ) → Distinct qs → Distinct (row p qs)
row-distinct p [] d = tt
row-distinct p (q ∷ qs) d = (λ i. d.0 (row_in p qs (p, q) i).1, row-distinct p qs d.1)

pub grid-distinct : (ps qs : List ℕ) → Distinct ps → Distinct qs → Distinct (grid ps qs)
grid-distinct [] qs d e = tt
grid-distinct (p ∷ ps) qs d e =
    append-distinct (row p qs) (grid ps qs) (row-distinct p qs e) (grid-distinct ps qs d.1 e)
    (λ k i j. d.0 (rw (row_in p qs k i).0 at (grid-in ps qs k j).0))

module _ {K : Type 0} (eq : K → K → Bool) (eq-true : (j k : K) → eq j k ≡ true → j ≡ k)
    (eq-same : (k : K) → eq k k ≡ true) (rule : (K → Bool) → K → Bool) (keys : List K) where
  -- a closure is what a test leaves of its keys
  pub closure-distinct : Distinct keys → Distinct (closure eq rule keys)
  closure-distinct d =
      subst (λ (X : List K). Distinct X) (closure-fixed eq eq-true eq-same rule keys)
      (filter-distinct
      (λ k. elem eq k (closure eq rule keys) || rule (λ j. elem eq j (closure eq rule keys)) k) keys d)

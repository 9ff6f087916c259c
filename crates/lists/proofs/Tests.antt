-- Laws of Bool tests, of membership and of the tests over lists.
use mathlib.Core.Bool.{Bool, ◌&&◌, ◌||◌, cond, false, false≢true, true, true≢false}
use mathlib.Core.List.{List, [], ◌++◌, ◌∷◌, map}
use mathlib.Core.Logic.{◌⊎◌, inl, inr}
use mathlib.Core.Path.{◌≡◌, ap, refl, sym}
use Prim.Native.Nat.{◌<◌, ◌≤◌, max, suc, ℕ}
use native.Mathlib.Omega.{arith}
use lib.Dec.{eqb, leb}
use lib.ListN.{length}
use borrow.Author.Tests.{eq-eqb, eqb-true, le-leb, leb-false, leb-true, lt-leb, ne_eqb}
use Rattle.lists.specs.Tests.{◌∈◌, any, every, filter, same_list}

pub and_left : (a b : Bool) → (a && b) ≡ true → a ≡ true
and_left true b e = refl
and_left false b e = e

pub and_right : (a b : Bool) → (a && b) ≡ true → b ≡ true
and_right true b e = e
and_right false b e = absurd (false≢true e)

pub and_both : {a b : Bool} → a ≡ true → b ≡ true → (a && b) ≡ true
and_both p q = cc

pub or_left : (a b : Bool) → a ≡ true → (a || b) ≡ true
or_left a b e = rw e

pub or_right : (a b : Bool) → b ≡ true → (a || b) ≡ true
or_right true b e = refl
or_right false b e = e

pub or_cases : (a b : Bool) → (a || b) ≡ true → (a ≡ true) ⊎ (b ≡ true)
or_cases true b e = inl refl
or_cases false b e = inr e

pub or-none-left : (a b : Bool) → (a || b) ≡ false → a ≡ false
or-none-left true b e = e
or-none-left false b e = refl

pub or-none-right : (a b : Bool) → (a || b) ≡ false → b ≡ false
or-none-right true b e = absurd (true≢false e)
or-none-right false b e = e

-- tests that follow from each other are equal
pub same_test : (a b : Bool) → (a ≡ true → b ≡ true) → (b ≡ true → a ≡ true) → a ≡ b
same_test true b f g = sym (f refl)
same_test false true f g = g refl
same_test false false f g = refl

-- a test is true or false
pub test : (b : Bool) → (b ≡ true) ⊎ (b ≡ false)
test true = inl refl
test false = inr refl

pub same_list-true : (xs ys : List ℕ) → same_list xs ys ≡ true → xs ≡ ys
same_list-true [] [] e = refl
same_list-true [] (y ∷ ys) e = absurd (false≢true e)
same_list-true (x ∷ xs) [] e = absurd (false≢true e)
same_list-true (x ∷ xs) (y ∷ ys) e =
    cc (eqb-true x y (and_left _ _ e), same_list-true xs ys (and_right (eqb x y) _ e))

pub same_list-refl : (xs : List ℕ) → same_list xs xs ≡ true
same_list-refl [] = refl
same_list-refl (x ∷ xs) = and_both (eq-eqb x x refl) (same_list-refl xs)

module _ {A : Type 0} where
  pub any-in : (p : A → Bool) (xs : List A) → any p xs ≡ true → (x : A) × (x ∈ xs) × (p x ≡ true)
  any-in p [] e = absurd (false≢true e)
  any-in p (x ∷ xs) e = go (any-in p xs) (or_cases (p x) (any p xs) e)
    where
      go : (any p xs ≡ true → (y : A) × (y ∈ xs) × (p y ≡ true)) → (p x ≡ true) ⊎ (any p xs ≡ true) →
          (y : A) × (y ∈ (x ∷ xs)) × (p y ≡ true)
      go ih (inl h) = (x, inl refl, h)
      go ih (inr h) = let r = ih h in (r.0, inr r.1, r.2)

  pub in-any : (p : A → Bool) (xs : List A) (x : A) → x ∈ xs → p x ≡ true → any p xs ≡ true
  in-any p [] x x4 h = elim x4 [ ]
  in-any p (y ∷ xs) x (inl e) h = or_left _ _ (rw e at h)
  in-any p (y ∷ xs) x (inr m) h = or_right (p y) _ (in-any p xs x m h)

  pub every_in : (p : A → Bool) (xs : List A) → every p xs ≡ true → (x : A) → x ∈ xs → p x ≡ true
  every_in p [] e x x4 = elim x4 [ ]
  every_in p (y ∷ xs) e x (inl q) = rw q (and_left _ _ e)
  every_in p (y ∷ xs) e x (inr m) = every_in p xs (and_right (p y) _ e) x m

  pub in-every : (p : A → Bool) (xs : List A) → ((x : A) → x ∈ xs → p x ≡ true) → every p xs ≡ true
  in-every p [] h = refl
  in-every p (x ∷ xs) h = and_both (h x (inl refl)) (in-every p xs (λ y m. h y (inr m)))

  pub filter-in : (p : A → Bool) (xs : List A) (x : A) → x ∈ filter p xs → (x ∈ xs) × (p x ≡ true)
  filter-in p [] x m = elim m [ ]
  filter-in p (y ∷ xs) x m = go (λ n. filter-in p xs x n) (p y) refl m
    where
      go : (x ∈ filter p xs → (x ∈ xs) × (p x ≡ true)) → (b : Bool) → p y ≡ b →
          x ∈ cond b (y ∷ filter p xs) (filter p xs) → (x ∈ (y ∷ xs)) × (p x ≡ true)
      go ih true e (inl q) = (inl q, rw q e)
      go ih true e (inr n) = let r = ih n in (inr r.0, r.1)
      go ih false e n = let r = ih n in (inr r.0, r.1)

  pub in-filter : (p : A → Bool) (xs : List A) (x : A) → x ∈ xs → p x ≡ true → x ∈ filter p xs
  in-filter p [] x x4 h = elim x4 [ ]
  in-filter p (y ∷ xs) x (inl q) h = let e : p y ≡ true = rw q at h in rw e (inl q)
  in-filter p (y ∷ xs) x (inr m) h = go (in-filter p xs x m h) (p y)
    where
      go : x ∈ filter p xs → (b : Bool) → x ∈ cond b (y ∷ filter p xs) (filter p xs)
      go n true = inr n
      go n false = n

  pub filter-length : (p : A → Bool) (xs : List A) → length (filter p xs) ≤ length xs
  filter-length p [] = omega arith
  filter-length p (x ∷ xs) = go (filter-length p xs) (p x)
    where
      go : length (filter p xs) ≤ length xs → (b : Bool) →
          length (cond b (x ∷ filter p xs) (filter p xs)) ≤ suc (length xs)
      go h true = omega arith
      go h false = omega arith

  -- a weaker test gives the same list, or a longer one
  pub filter-weaker : (p q : A → Bool) (xs : List A) → ((x : A) → x ∈ xs → p x ≡ true → q x ≡ true) →
      (filter p xs ≡ filter q xs) ⊎ (length (filter p xs) < length (filter q xs))
  filter-weaker p q [] h = inl refl
  filter-weaker p q (x ∷ xs) h = go (filter-weaker p q xs (λ y m. h y (inr m))) (p x) (q x) (h x (inl refl))
    where
      go : (filter p xs ≡ filter q xs) ⊎ (length (filter p xs) < length (filter q xs)) → (b c : Bool) →
          (b ≡ true → c ≡ true) →
          (cond b (x ∷ filter p xs) (filter p xs) ≡ cond c (x ∷ filter q xs) (filter q xs)) ⊎
          (length (cond b (x ∷ filter p xs) (filter p xs)) < length
          (cond c (x ∷ filter q xs) (filter q xs)))
      go (inl e) true true k = inl (rw e)
      go (inr l) true true k = inr (omega arith)
      go r true false k = absurd (false≢true (k refl))
      go (inl e) false true k = inr (omega (arith, ap length e))
      go (inr l) false true k = inr (omega arith)
      go (inl e) false false k = inl e
      go (inr l) false false k = inr l

module _ {A : Type 0} where
  pub in_append_left : (xs ys : List A) (x : A) → x ∈ xs → x ∈ (xs ++ ys)
  in_append_left [] ys x x3 = elim x3 [ ]
  in_append_left (z ∷ xs) ys x (inl e) = inl e
  in_append_left (z ∷ xs) ys x (inr m) = inr (in_append_left xs ys x m)

  pub in_append_right : (xs ys : List A) (x : A) → x ∈ ys → x ∈ (xs ++ ys)
  in_append_right [] ys x m = m
  in_append_right (z ∷ xs) ys x m = inr (in_append_right xs ys x m)

  -- a list without an element that passes, before another
  pub any-after : (p : A → Bool) (xs ys : List A) → any p xs ≡ false → any p (xs ++ ys) ≡ any p ys
  any-after p [] ys e = refl
  any-after p (x ∷ xs) ys e = rw (or-none-left (p x) _ e) (any-after p xs ys (or-none-right (p x) _ e))

  pub append-in : (xs ys : List A) (x : A) → x ∈ (xs ++ ys) → (x ∈ xs) ⊎ (x ∈ ys)
  append-in [] ys x m = inr m
  append-in (z ∷ xs) ys x (inl e) = inl (inl e)
  append-in (z ∷ xs) ys x (inr m) = go (append-in xs ys x m)
    where
      go : (x ∈ xs) ⊎ (x ∈ ys) → (x ∈ (z ∷ xs)) ⊎ (x ∈ ys)
      go (inl i) = inl (inr i)
      go (inr i) = inr i

module _ {A B : Type 0} where
  pub in_map : (f : A → B) (xs : List A) (x : A) → x ∈ xs → f x ∈ map f xs
  in_map f [] x x3 = elim x3 [ ]
  in_map f (y ∷ xs) x (inl e) = inl (ap f e)
  in_map f (y ∷ xs) x (inr m) = inr (in_map f xs x m)

  pub map-in : (f : A → B) (xs : List A) (y : B) → y ∈ map f xs → (x : A) × (x ∈ xs) × (y ≡ f x)
  map-in f [] y x' = elim x' [ ]
  map-in f (x ∷ xs) y (inl e) = (x, inl refl, e)
  map-in f (x ∷ xs) y (inr m) = let r = map-in f xs y m in (r.0, inr r.1, r.2)

  -- lists with the same values are the same, if elements with the same value are
  pub map_inj : (f : A → B) (xs ys : List A) → ((x y : A) → x ∈ xs → y ∈ ys → f x ≡ f y → x ≡ y) →
      map f xs ≡ map f ys → xs ≡ ys
  map_inj f [] [] h e = refl
  map_inj f [] (y ∷ ys) h e = let z : ◌≡◌ {A = ℕ} 0 1 = cc in absurd (omega arith)
  map_inj f (x ∷ xs) [] h e = let z : ◌≡◌ {A = ℕ} 0 1 = cc in absurd (omega arith)
  map_inj f (x ∷ xs) (y ∷ ys) h e =
      let u : f x ≡ f y = cc in
      let v : map f xs ≡ map f ys = cc in
      cc (h x y (inl refl) (inl refl) u, map_inj f xs ys (λ a b i j. h a b (inr i) (inr j)) v)

-- a list that is there if a test passes
pub length-if : {A : Type 0} (b : Bool) (xs : List A) (n : ℕ) → length xs ≡ n → length (cond b xs []) ≡ cond b n 0
length-if true xs n e = e
length-if false xs n e = refl

-- a test of the values of a function
pub every-mapped : {A B : Type 0} (p : B → Bool) (f : A → B) (xs : List A) →
    every p (map f xs) ≡ every (λ x. p (f x)) xs
every-mapped p f [] = refl
every-mapped p f (x ∷ xs) = rw (every-mapped p f xs)

pub eqb_same : (k : ℕ) → eqb k k ≡ true
eqb_same k = eq-eqb k k refl

-- no state of a list is 0
pub none-zero : (qs : List ℕ) → ((q : ℕ) → q ∈ qs → 1 ≤ q) → any (eqb 0) qs ≡ false
none-zero [] h = refl
none-zero (q ∷ qs) h = rw (ne_eqb 0 q (λ e. omega (arith, h q (inl refl)))) (none-zero qs (λ p i. h p (inr i)))

-- a list around one of its members
pub in_split : {A : Type 0} (xs : List A) (x : A) → x ∈ xs → (l : List A) × (r : List A) × (xs ≡ l ++ (x ∷ r))
in_split {A = A} [] x x3 = elim x3 [ ]
in_split (y ∷ xs) x (inl e) = ([], xs, rw e)
in_split (y ∷ xs) x (inr i) = let (l, r, e) = in_split xs x i in (y ∷ l, r, ap (λ z. y ∷ z) e)

-- tests that agree on a list pass it alike
pub every-same-in : {A : Type 0} (p q : A → Bool) (xs : List A) → ((x : A) → x ∈ xs → p x ≡ q x) → every p xs ≡
    every q xs
every-same-in p q [] h = refl
every-same-in p q (x ∷ xs) h = cc (h x (inl refl), every-same-in p q xs (λ y i. h y (inr i)))

-- a bound of the greater of two numbers bounds both
pub leb-max : (x y k : ℕ) → leb (max x y) k ≡ (leb x k && leb y k)
leb-max x y k = go (leb x k) refl (leb y k) refl
  where
    go : (b : Bool) → leb x k ≡ b → (d : Bool) → leb y k ≡ d → leb (max x y) k ≡ (leb x k && leb y k)
    go true e true f = let l = leb-true x k e in let m = leb-true y k f in
        let r = le-leb (max x y) k (omega arith) in cc
    go true e false f = let m = leb-false y k f in let r = lt-leb (max x y) k (omega arith) in cc
    go false e d f = let l = leb-false x k e in let r = lt-leb (max x y) k (omega arith) in cc

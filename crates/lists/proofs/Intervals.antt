-- Lists made by index over an interval: their length, their elements, and tests over them.
use mathlib.Core.Bool.{Bool, true}
use mathlib.Core.List.{List, [], ◌++◌, ◌∷◌, map}
use mathlib.Core.Logic.{inl, inr}
use mathlib.Core.Path.{◌∙◌, ◌≡◌, ap, refl, sym}
use Prim.Native.Nat.{◌+◌, ◌<◌, ◌≤◌, suc, zero, ℕ}
use native.Mathlib.Omega.{arith}
use lib.ListN.{get_or-eq_default, get_or, length, length-map, replicate}
use lib.Seq.{ext_get_or}
use Rattle.lists.specs.Positions.{up_from}
use Rattle.lists.specs.Tests.{◌∈◌, every}
use Rattle.lists.proofs.Positions.{in-up_from, up_from-in, up_from-length}
use Rattle.lists.proofs.Tests.{every_in, in-every, in_map, map-in}

-- ---- a list by index

module _ {A : Type 0} where
  pub get_d-in : (xs : List A) (i : ℕ) (d : A) → i < length xs → get_or xs i d ∈ xs
  get_d-in [] i d h = absurd (omega arith)
  get_d-in (x ∷ xs) zero d h = inl refl
  get_d-in (x ∷ xs) (suc i) d h = inr (get_d-in xs i d (omega arith))

  pub in-get_d : (xs : List A) (x d : A) → x ∈ xs → (i : ℕ) × (i < length xs) × (x ≡ get_or xs i d)
  in-get_d [] x d x3 = elim x3 [ ]
  in-get_d (y ∷ xs) x d (inl e) = (0, omega arith, e)
  in-get_d (y ∷ xs) x d (inr m) = let (i, h, e) = in-get_d xs x d m in (suc i, omega arith, e)

pub get_d-zeros : (n i : ℕ) → ◌≡◌ {A = ℕ} (get_or (replicate n 0) i 0) 0
get_d-zeros zero i = refl
get_d-zeros (suc n) zero = refl
get_d-zeros (suc n) (suc i) = get_d-zeros n i

-- ---- a function over an interval

module _ {A : Type 0} (f : ℕ → A) where
  pub length-tabulated : (k n : ℕ) → length (map f (up_from k n)) ≡ n
  length-tabulated k n = length-map (up_from k n) f ∙ up_from-length k n

  pub get_d-tabulated : (k n i : ℕ) (d : A) → i < n → get_or (map f (up_from k n)) i d ≡ f (k + i)
  get_d-tabulated k zero i d h = absurd (omega arith)
  get_d-tabulated k (suc n) zero d h = ap f (omega arith)
  get_d-tabulated k (suc n) (suc i) d h =
      get_d-tabulated (suc k) n i d (omega arith) ∙ ap f (omega arith)

  pub get_d-tabulated-beyond : (k n i : ℕ) (d : A) → n ≤ i → get_or (map f (up_from k n)) i d ≡ d
  get_d-tabulated-beyond k n i d h =
      get_or-eq_default (map f (up_from k n)) d (omega (arith, length-tabulated k n))

  -- one number more
  pub tabulated-suc : (k n : ℕ) → map f (up_from k (suc n)) ≡ map f (up_from k n) ++ (f (k + n) ∷ [])
  tabulated-suc k zero = let z : k ≡ k + 0 = omega arith in ap (λ i. f i ∷ []) z
  tabulated-suc k (suc n) = let z : suc k + n ≡ k + suc n = omega arith in
      ap (λ l. f k ∷ l) (tabulated-suc (suc k) n ∙ ap (λ i. map f (up_from (suc k) n) ++ (f i ∷ [])) z)

  -- a list that is as long as the interval and has f's value at each index
  pub tabulated : (k n : ℕ) (d : A) (xs : List A) → length xs ≡ n →
      ((i : ℕ) → i < n → f (k + i) ≡ get_or xs i d) → map f (up_from k n) ≡ xs
  tabulated k n d xs e h =
      ext_get_or d (map f (up_from k n)) xs (length-tabulated k n ∙ sym e)
      (λ i l. let b : i < n = omega (arith, length-tabulated k n) in get_d-tabulated k n i d b ∙ h i b)

  pub in-tabulated : (k n i : ℕ) → k ≤ i → i < k + n → f i ∈ map f (up_from k n)
  in-tabulated k n i h l = in_map f (up_from k n) i (in-up_from k n i h l)

  pub tabulated-in : (k n : ℕ) (x : A) → x ∈ map f (up_from k n) → (i : ℕ) × (k ≤ i) × (i < k + n) × (x ≡ f i)
  tabulated-in k n x m =
      let (i, j, e) = map-in f (up_from k n) x m in let r = up_from-in k n i j in (i, r.0, r.1, e)

-- ---- a test over an interval, by index

pub every-at : (p : ℕ → Bool) (k n : ℕ) → every p (up_from k n) ≡ true → (i : ℕ) → k ≤ i → i < k + n → p i ≡ true
every-at p k n e i h l = every_in p (up_from k n) e i (in-up_from k n i h l)

pub at_every : (p : ℕ → Bool) (k n : ℕ) → ((i : ℕ) → k ≤ i → i < k + n → p i ≡ true) → every p (up_from k n) ≡ true
at_every p k n h =
    in-every p (up_from k n) (λ i m. let r = up_from-in k n i m in h i r.0 r.1)

-- the element at an index of a mapped list
pub get_d_map : {A B : Type 0} (f : A → B) (xs : List A) (k : ℕ) (d : A) (e : B) → k < length xs →
    get_or (map f xs) k e ≡ f (get_or xs k d)
get_d_map f [] k d e h = absurd (omega arith)
get_d_map f (x ∷ xs) zero d e h = refl
get_d_map f (x ∷ xs) (suc k) d e h = get_d_map f xs k d e (omega arith)

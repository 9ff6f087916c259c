-- Membership in a list, lists without repeats and how many elements have a property, and tests over lists that compute.
use Rattle.std.specs.Prelude.{Bool, ◌&&◌, ◌||◌, cond, false, true, List, [], ◌∷◌, ◌↔◌, ◌⊎◌, ◌≡◌, ℕ, eqb, length}

module _ {A : Type 0} where
  -- x stands in the list
  infix 4 ◌∈◌
  abbrev pub ◌∈◌ : A → List A → Type 0
  x ∈ [] = ⊥
  x ∈ (y ∷ ys) = (x ≡ y) ⊎ (x ∈ ys)

  -- no element stands twice in the list
  abbrev pub Distinct : List A → Type 0
  Distinct [] = Unit {0}
  Distinct (x ∷ xs) = (x ∈ xs → ⊥) × Distinct xs

  -- the list holds exactly the elements that have the property, none twice
  pub record Exactly (P : A → Type 0) (L : List A) : Type 0 where
    pub once : Distinct L
    pub members : (x : A) → (x ∈ L) ↔ P x

  -- n elements have the property: some list holds exactly them, none twice, and every such list has length n
  pub record Counts (P : A → Type 0) (n : ℕ) : Type 0 where
    pub list : List A
    pub exactly : Exactly P list
    pub every-length : (L : List A) → Exactly P L → length L ≡ n

  -- every element passes the test
  abbrev pub every : (A → Bool) → List A → Bool
  every p [] = true
  every p (x ∷ xs) = p x && every p xs

  -- some element passes the test
  abbrev pub any : (A → Bool) → List A → Bool
  any p [] = false
  any p (x ∷ xs) = p x || any p xs

  -- the elements that pass the test, in their order
  abbrev pub filter : (A → Bool) → List A → List A
  filter p [] = []
  filter p (x ∷ xs) = let r = filter p xs in cond (p x) (x ∷ r) r

-- 1 if a test passes, else 0
abbrev pub bit : Bool → ℕ
bit true = 1
bit false = 0

-- two lists of numbers are equal
abbrev pub same_list : List ℕ → List ℕ → Bool
same_list [] [] = true
same_list [] (y ∷ ys) = false
same_list (x ∷ xs) [] = false
same_list (x ∷ xs) (y ∷ ys) = eqb x y && same_list xs ys

-- How many elements have a property, counted by their values in another list.
use mathlib.Core.List.{List, [], ◌∷◌, map}
use mathlib.Core.Logic.{◌↔◌, inl, inr}
use mathlib.Core.Path.{◌∙◌, ◌≡◌, refl, subst, sym}
use Prim.Native.Nat.{ℕ}
use native.Mathlib.Omega.{arith}
use lib.ListN.{length, length-map}
use Rattle.lists.specs.Tests.{Counts, Distinct, Exactly, ◌∈◌}
use Rattle.lists.proofs.Distinct.{distinct-length, map-distinct}
use Rattle.lists.proofs.Tests.{in_map, map-in}

module _ {A B : Type 0} where
  -- what has different values is different
  unmap-distinct : (f : A → B) (xs : List A) → Distinct (map f xs) → Distinct xs
  unmap-distinct f [] d = tt
  unmap-distinct f (x ∷ xs) d = (λ i. d.0 (in_map f xs x i), unmap-distinct f xs d.1)

  -- f gives each element that has the property a value of its own, and ys holds exactly these values
  module _ (f : A → B) (P : A → Type 0) (ys : List B) (distinct : Distinct ys)
      (injective : (x y : A) → P x → P y → f x ≡ f y → x ≡ y) (there : (x : A) → P x → f x ∈ ys)
      (onto : (y : B) → y ∈ ys → (x : A) × P x × (y ≡ f x)) where
    exactly-length : (L : List A) → Exactly P L → length L ≡ length ys
    exactly-length L e =
        omega (
          arith,
          distinct-length (map f L) ys
              (map-distinct f L (λ x y i j. injective x y ((e.members x).0 i) ((e.members y).0 j)) e.once) within,
          distinct-length ys (map f L) distinct all,
          length-map L f,
        )
      where
        within : (y : B) → y ∈ map f L → y ∈ ys
        within y i = let (x, j, d) = map-in f L y i in rw d (there x ((e.members x).0 j))

        all : (y : B) → y ∈ ys → y ∈ map f L
        all y i = let (x, p, d) = onto y i in rw d (in_map f L x ((e.members x).1 p))

    -- elements for values
    elements : (zs : List B) → ((y : B) → y ∈ zs → y ∈ ys) →
        (L : List A) × (map f L ≡ zs) × ((x : A) → x ∈ L → P x)
    elements [] h = ([], refl, λ x i. absurd i)
    elements (y ∷ zs) h =
        let (x, p, e) = onto y (h y (inl refl)) in
        let (L, d, all) = elements zs (λ z i. h z (inr i)) in
        (x ∷ L, cc (e, d), also x p L all)
      where
        also : (x : A) → P x → (L : List A) → ((z : A) → z ∈ L → P z) → (z : A) → z ∈ (x ∷ L) → P z
        also x p L all z (inl e) = subst P (sym e) p
        also x p L all z (inr i) = all z i

    pub counts-mapped : Counts P (length ys)
    counts-mapped = counted (elements ys (λ y i. i))
      where
        counted : (L : List A) × (map f L ≡ ys) × ((x : A) → x ∈ L → P x) → Counts P (length ys)
        counted (L, d, all) = record {
          list = L;
          exactly = record {
            once = unmap-distinct f L (subst (λ (zs : List B). Distinct zs) (sym d) distinct);
            members = λ x. (all x, back x);
          };
          every-length = exactly-length;
        }
          where
            back : (x : A) → P x → x ∈ L
            back x p =
                let (z, i, e) = map-in f L (f x) (subst (λ (zs : List B). f x ∈ zs) (sym d) (there x p)) in
                subst (λ (w : A). w ∈ L) (sym (injective x z p (all z i) e)) i

-- a list that holds exactly the elements with a property counts them
pub exactly-counts : {A : Type 0} (P : A → Type 0) (L : List A) → Exactly P L → Counts P (length L)
exactly-counts P L E =
    counts-mapped (λ x. x) P L E.once (λ x y p q e. e) (λ x. (E.members x).1) (λ x i. (x, (E.members x).0 i, refl))

-- a property that says the same
pub exactly-same : {A : Type 0} (P Q : A → Type 0) (L : List A) → ((x : A) → P x ↔ Q x) → Exactly P L → Exactly Q L
exactly-same P Q L same E = record {
  once = E.once;
  members = λ x. (λ i. (same x).0 ((E.members x).0 i), λ q. (E.members x).1 ((same x).1 q));
}

pub counts_same : {A : Type 0} (P Q : A → Type 0) (n : ℕ) → ((x : A) → P x ↔ Q x) → Counts P n → Counts Q n
counts_same P Q n same C = record {
  list = C.list;
  exactly = exactly-same P Q C.list same C.exactly;
  every-length = λ L E. C.every-length L (exactly-same Q P L (λ x. ((same x).1, (same x).0)) E);
}

-- a property has one number
pub counts-unique : {A : Type 0} (P : A → Type 0) (m n : ℕ) → Counts P m → Counts P n → m ≡ n
counts-unique P m n C D = sym (C.every-length D.list D.exactly) ∙ D.every-length D.list D.exactly

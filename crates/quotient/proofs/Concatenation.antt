-- Lists that a function gives, one after another: the same function, a list of lists, and maps before and after.
use mathlib.Core.Bool.{Bool, false, true}
use mathlib.Core.List.{List, [], ◌++◌, ◌∷◌, append_assoc, map, map-append}
use mathlib.Core.Logic.{inl, inr}
use mathlib.Core.Path.{◌∙◌, ◌≡◌, ap, ap₂, refl, sym}
use Rattle.automata.specs.Product.{concat_map}
use Rattle.lists.specs.Tests.{◌∈◌, filter}

module _ {A B : Type 0} where
  pub concat_map-same : (f g : A → List B) (xs : List A) → ((x : A) → x ∈ xs → f x ≡ g x) →
      concat_map f xs ≡ concat_map g xs
  concat_map-same f g [] h = refl
  concat_map-same f g (x ∷ xs) h =
      ap₂ (λ (l r : List B). l ++ r) (h x (inl refl)) (concat_map-same f g xs (λ y i. h y (inr i)))

  pub concat_map-none : (f : A → List B) (xs : List A) → ((x : A) → f x ≡ []) → concat_map f xs ≡ []
  concat_map-none f [] h = refl
  concat_map-none f (x ∷ xs) h = ap (λ (l : List B). l ++ concat_map f xs) (h x) ∙ concat_map-none f xs h

  pub concat_map-append : (f : A → List B) (xs ys : List A) →
      concat_map f (xs ++ ys) ≡ concat_map f xs ++ concat_map f ys
  concat_map-append f [] ys = refl
  concat_map-append f (x ∷ xs) ys =
      ap (λ (l : List B). f x ++ l) (concat_map-append f xs ys)
      ∙ sym (append_assoc (f x) (concat_map f xs) (concat_map f ys))

module _ {A B C : Type 0} where
  pub concat_map-map : (f : B → List C) (g : A → B) (xs : List A) →
      concat_map f (map g xs) ≡ concat_map (λ x. f (g x)) xs
  concat_map-map f g [] = refl
  concat_map-map f g (x ∷ xs) = ap (λ (l : List C). f (g x) ++ l) (concat_map-map f g xs)

  pub concat_map-nested : (f : B → List C) (g : A → List B) (xs : List A) →
      concat_map f (concat_map g xs) ≡ concat_map (λ x. concat_map f (g x)) xs
  concat_map-nested f g [] = refl
  concat_map-nested f g (x ∷ xs) =
      concat_map-append f (g x) (concat_map g xs)
      ∙ ap (λ (l : List C). concat_map f (g x) ++ l) (concat_map-nested f g xs)

  pub map-concat_map : (f : B → C) (g : A → List B) (xs : List A) →
      map f (concat_map g xs) ≡ concat_map (λ x. map f (g x)) xs
  map-concat_map f g [] = refl
  map-concat_map f g (x ∷ xs) =
      map-append f (g x) (concat_map g xs) ∙ ap (λ (l : List C). map f (g x) ++ l) (map-concat_map f g xs)

  -- elements that pass, one at a time
  pub map-filter : (f : B → C) (p : B → Bool) (g : A → B) (xs : List A) →
      map f (filter p (map g xs)) ≡ concat_map (λ x. map f (filter p (g x ∷ []))) xs
  map-filter f p g [] = refl
  map-filter f p g (x ∷ xs) = go (map-filter f p g xs) (p (g x)) refl
    where
      go : map f (filter p (map g xs)) ≡ concat_map (λ y. map f (filter p (g y ∷ []))) xs → (b : Bool) → p (g x) ≡ b →
          map f (filter p (map g (x ∷ xs))) ≡
          map f (filter p (g x ∷ [])) ++ concat_map (λ y. map f (filter p (g y ∷ []))) xs
      go ih true e = rw e (ap (λ (l : List C). f (g x) ∷ l) ih)
      go ih false e = rw e ih

-- Choices of one name for each state: what is among them, how many they are, and that none stands twice.
use mathlib.Core.List.{List, [], ◌∷◌, map}
use mathlib.Core.Path.{◌∙◌, ◌≡◌, ap, refl, sym}
use mathlib.Core.Logic.{inl, inr}
use Prim.Native.Nat.{◌*◌, ℕ}
use lib.ListN.{length, length-map}
use Rattle.automata.specs.Quotient.{choices}
use Rattle.automata.specs.Totals.{product_over}
use Rattle.lists.specs.Tests.{Distinct, ◌∈◌}
use Rattle.automata.proofs.Nodes.{concat_map-in, in-concat_map}
use Rattle.automata.proofs.TotalsLists.{concat_map-distinct, concat_map-length}
use Rattle.lists.proofs.Distinct.{map-distinct}
use Rattle.lists.proofs.Tests.{in_map, map-in}
use Rattle.lists.proofs.Heads.{head-same, tail-same}

module _ (K : ℕ → List ℕ) where
  -- a name for the first state, before a choice for the others
  abbrev pub Split : ℕ → List ℕ → List ℕ → Type 0
  Split q qs xs = (x : ℕ) × (x ∈ K q) × ((ys : List ℕ) × (ys ∈ choices K qs) × (xs ≡ x ∷ ys))

  pub choice-split : (q : ℕ) (qs xs : List ℕ) → xs ∈ choices K (q ∷ qs) → Split q qs xs
  choice-split q qs xs i =
      let (x, j, k) = concat_map-in (λ x. map (λ ys. x ∷ ys) (choices K qs)) (K q) xs i in
      (x, j, map-in (λ ys. x ∷ ys) (choices K qs) xs k)

  pub split-choice : (q : ℕ) (qs : List ℕ) (x : ℕ) (ys : List ℕ) → x ∈ K q → ys ∈ choices K qs →
      (x ∷ ys) ∈ choices K (q ∷ qs)
  split-choice q qs x ys i j =
      in-concat_map (λ x. map (λ ys. x ∷ ys) (choices K qs)) (K q) x (x ∷ ys) i
      (in_map (λ ys. x ∷ ys) (choices K qs) ys j)

  pub choices-length : (qs : List ℕ) → length (choices K qs) ≡ product_over (λ q. length (K q)) qs
  choices-length [] = refl
  choices-length (q ∷ qs) =
      concat_map-length (λ x. map (λ ys. x ∷ ys) (choices K qs)) (length (choices K qs)) (K q)
      (λ x. length-map (choices K qs) (λ ys. x ∷ ys)) ∙ ap (λ (n : ℕ). length (K q) * n) (choices-length qs)

  pub choices-distinct : (qs : List ℕ) → ((q : ℕ) → q ∈ qs → Distinct (K q)) → Distinct (choices K qs)
  choices-distinct [] h = (λ i. i, tt)
  choices-distinct (q ∷ qs) h =
      concat_map-distinct (λ x. map (λ ys. x ∷ ys) (choices K qs)) (K q) (h q (inl refl))
      (λ x i. map-distinct (λ ys. x ∷ ys) (choices K qs) (λ xs ys j k. tail-same x x xs ys)
      (choices-distinct qs (λ p i. h p (inr i))))
      apart
    where
      apart : (x y : ℕ) (zs : List ℕ) → zs ∈ map (λ ys. x ∷ ys) (choices K qs) →
          zs ∈ map (λ ys. y ∷ ys) (choices K qs) → x ≡ y
      apart x y zs i j =
          let (xs, _, d) = map-in (λ ys. x ∷ ys) (choices K qs) zs i in
          let (ys, _, e) = map-in (λ ys. y ∷ ys) (choices K qs) zs j in head-same x y xs ys (sym d ∙ e)

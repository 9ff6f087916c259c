-- The nodes of a product: lists of pairs with a given side.
use mathlib.Core.List.{List, [], ◌∷◌, map}
use mathlib.Core.Logic.{◌⊎◌, inl, inr}
use mathlib.Core.Path.{◌∙◌, ◌≡◌, ap, refl, subst, sym}
use Prim.Native.Nat.{ℕ}
use lib.Dec.{eqb}
use borrow.Author.Tests.{eq-eqb, eqb-true}
use Rattle.automata.specs.Automaton.{Transition}
use Rattle.automata.specs.Product.{Node, concat_map, lists, nodes_of, pair_number}
use Rattle.automata.specs.ProductView.{AllIn}
use Rattle.lists.specs.Positions.{Pair, eq_pair}
use Rattle.lists.specs.Tests.{◌∈◌, filter}
use Rattle.lists.proofs.Positions.{eq_pair-same, eq_pair-true, position-inj}
use Rattle.lists.proofs.Tests.{append-in, filter-in, in_append_left, in_append_right, in-filter, in_map, map-in}
use Rattle.lists.proofs.Tests.{map_inj}

module _ {A B : Type 0} where
  pub concat_map-in : (f : A → List B) (xs : List A) (y : B) → y ∈ concat_map f xs →
      (x : A) × (x ∈ xs) × (y ∈ f x)
  concat_map-in f [] y i = elim i [ ]
  concat_map-in f (x ∷ xs) y i = go (λ j. concat_map-in f xs y j) (append-in (f x) (concat_map f xs) y i)
    where
      go : (y ∈ concat_map f xs → (z : A) × (z ∈ xs) × (y ∈ f z)) → (y ∈ f x) ⊎ (y ∈ concat_map f xs) →
          (z : A) × (z ∈ (x ∷ xs)) × (y ∈ f z)
      go ih (inl j) = (x, inl refl, j)
      go ih (inr j) = let r = ih j in (r.0, inr r.1, r.2)

  pub in-concat_map : (f : A → List B) (xs : List A) (x : A) (y : B) → x ∈ xs → y ∈ f x → y ∈ concat_map f xs
  in-concat_map f [] x y x4 j = elim x4 [ ]
  in-concat_map f (z ∷ xs) x y (inl e) j = in_append_left (f z) (concat_map f xs) y (rw e at j)
  in-concat_map f (z ∷ xs) x y (inr i) j =
      in_append_right (f z) (concat_map f xs) y (in-concat_map f xs x y i j)

module _ (R : List Pair) (side : Pair → ℕ) where
  pub lists-in : (qs : List ℕ) (ks : List Pair) → ks ∈ lists R side qs → AllIn R ks × (map side ks ≡ qs)
  lists-in [] ks (inl e) = rw e (tt, refl)
  lists-in [] ks (inr i) = absurd i
  lists-in (q ∷ qs) ks i =
      go (λ js j. lists-in qs js j)
      (concat_map-in (λ k. map (λ ks. k ∷ ks) (lists R side qs)) (filter (λ k. eqb q (side k)) R) ks i)
    where
      go : ((js : List Pair) → js ∈ lists R side qs → AllIn R js × (map side js ≡ qs)) →
          (k : Pair) × (k ∈ filter (λ k. eqb q (side k)) R) × (ks ∈ map (λ ks. k ∷ ks) (lists R side qs)) →
          AllIn R ks × (map side ks ≡ (q ∷ qs))
      go ih (k, j, n) = split (map-in (λ ks. k ∷ ks) (lists R side qs) ks n)
        where
          split : (js : List Pair) × (js ∈ lists R side qs) × (ks ≡ k ∷ js) →
              AllIn R ks × (map side ks ≡ (q ∷ qs))
          split (js, u, e) = let r = ih js u in let f = filter-in (λ k. eqb q (side k)) R k j in
              rw e ((f.0, r.0), cc (eqb-true q (side k) f.1, r.1))

  pub in-lists : (ks : List Pair) → AllIn R ks → ks ∈ lists R side (map side ks)
  in-lists [] h = inl refl
  in-lists (k ∷ ks) h =
      in-concat_map (λ k. map (λ ks. k ∷ ks) (lists R side (map side ks)))
      (filter (λ j. eqb (side k) (side j)) R) k (k ∷ ks)
      (in-filter (λ j. eqb (side k) (side j)) R k h.0 (eq-eqb (side k) (side k) refl))
      (in_map (λ js. k ∷ js) (lists R side (map side ks)) ks (in-lists ks h.1))

  pub nodes-in : (ls : List Transition) (a : ℕ) (ks : List Pair) →
      ◌∈◌ {A = Node} (a, ks) (nodes_of R side ls) →
      AllIn R ks × ((l : Transition) × (l ∈ ls) × (l.label ≡ a) × (l.args ≡ map side ks))
  unfolding nodes_of
  nodes-in ls a ks i =
      go (concat_map-in (λ l. map (λ ks. (l.label, ks)) (lists R side l.args)) ls (a, ks) i)
    where
      go : (l : Transition) × (l ∈ ls) ×
          (◌∈◌ {A = Node} (a, ks) (map (λ ks. (l.label, ks)) (lists R side l.args))) →
          AllIn R ks × ((l : Transition) × (l ∈ ls) × (l.label ≡ a) × (l.args ≡ map side ks))
      go (l, j, n) = split (map-in {B = Node} (λ ks. (l.label, ks)) (lists R side l.args) (a, ks) n)
        where
          split : (js : List Pair) × (js ∈ lists R side l.args) ×
              (◌≡◌ {A = Node} (a, ks) (l.label, js)) →
              AllIn R ks × ((l : Transition) × (l ∈ ls) × (l.label ≡ a) × (l.args ≡ map side ks))
          split (js, u, e) =
              let r = lists-in l.args js u in
              let k : ks ≡ js = ap (λ (c : Node). c.1) e in (
                subst (λ (x : List Pair). AllIn R x) (sym k) r.0,
                (l, j, sym (ap (λ (c : Node). c.0) e), sym (ap (map side) k ∙ r.1)),
              )

  pub in-nodes : (ls : List Transition) (l : Transition) (ks : List Pair) → l ∈ ls → AllIn R ks →
      l.args ≡ map side ks → ◌∈◌ {A = Node} (l.label, ks) (nodes_of R side ls)
  unfolding nodes_of
  in-nodes ls l ks i h e =
      in-concat_map (λ l. map (λ ks. (l.label, ks)) (lists R side l.args)) ls l (l.label, ks) i
      (in_map (λ ks. (l.label, ks)) (lists R side l.args) ks (rw e (in-lists ks h)))

pub all-member : (R ks : List Pair) → AllIn R ks → (k : Pair) → k ∈ ks → k ∈ R
all-member R [] h k x'' = elim x'' [ ]
all-member R (j ∷ ks) h k (inl e) = rw e h.0
all-member R (j ∷ ks) h k (inr i) = all-member R ks h.1 k i

pub pair_numbers-inj : (R : List Pair) (js ks : List Pair) → AllIn R js →
    map (pair_number R) js ≡ map (pair_number R) ks → js ≡ ks
pair_numbers-inj R js ks h =
    map_inj (pair_number R) js ks
    (λ j k i _. position-inj eq_pair eq_pair-true eq_pair-same R j k (all-member R js h j i))

-- A node is compared with a transition's slot, and with another node, by its label, its number of children and its
-- children.
use mathlib.Core.Bool.{Bool, ◌&&◌, false, not, true}
use mathlib.Core.List.{List}
use mathlib.Core.Logic.{◌⊎◌, inl, inr}
use mathlib.Core.Path.{◌∙◌, ◌≡◌, ap, refl, sym}
use Prim.Native.Nat.{◌<◌, ℕ}
use native.Mathlib.Omega.{arith}
use lib.Dec.{eqb}
use lib.ListN.{get_or}
use borrow.Author.Tests.{eqb-true}
use Rattle.lists.specs.Positions.{up_from}
use Rattle.lists.specs.Tests.{any, bit, every}
use Rattle.subtrees.specs.Store.{child_at}
use Rattle.table.specs.Layout.{arity_of, label_of}
use Rattle.uses.specs.Frames.{frame_of, framed, in_slot, same_child, same_sibling, twin}
use Rattle.lists.proofs.Tests.{and_left, and_right, or_cases}
use Rattle.uses.proofs.Comparing.{and-eq, and-ne, or-eq, or-ne}

module _ (s : List ℕ) (at k : ℕ) (l r c q : List ℕ) (i : ℕ) where
  pub label-differs : {a : ℕ} → (get_or l i 0 ≡ a → ⊥) → a ≡ label_of s at → false ≡ in_slot s at k l r c q i
  unfolding in_slot
  label-differs n e = and-ne _ _ _ (λ d. n (d ∙ sym e))

  pub arity-differs : {a b d : ℕ} → get_or l i 0 ≡ a → a ≡ label_of s at → (b ≡ d → ⊥) → b ≡ get_or r i 0 →
      d ≡ arity_of s at → false ≡ in_slot s at k l r c q i
  unfolding in_slot
  arity-differs e f n g h = and-eq _ _ _ (e ∙ f) (and-ne _ _ _ (λ z. n (g ∙ z ∙ sym h)))

  pub in-siblings : {a : ℕ} {b : Bool} → get_or l i 0 ≡ a → a ≡ label_of s at → get_or r i 0 ≡ arity_of s at →
      b ≡ every (same_sibling s at k c q i) (up_from 0 (arity_of s at)) → b ≡ in_slot s at k l r c q i
  unfolding in_slot
  in-siblings e f g h = and-eq _ _ _ (e ∙ f) (and-eq _ _ _ g h)

module _ (l r c : List ℕ) (j k i h : ℕ) where
  pub other-child : (child_at c h k ≡ j → ⊥) → false ≡ twin l r c j k i h
  unfolding twin
  other-child n = and-ne _ _ _ n

  pub other-label : child_at c h k ≡ j → (get_or l h 0 ≡ get_or l i 0 → ⊥) → false ≡ twin l r c j k i h
  unfolding twin
  other-label e n = and-eq _ _ _ e (and-ne _ _ _ n)

  pub other-arity : child_at c h k ≡ j → get_or l h 0 ≡ get_or l i 0 → (get_or r h 0 ≡ get_or r i 0 → ⊥) →
      false ≡ twin l r c j k i h
  unfolding twin
  other-arity e d n = and-eq _ _ _ e (and-eq _ _ _ d (and-ne _ _ _ n))

  pub by-children : {b : Bool} → child_at c h k ≡ j → get_or l h 0 ≡ get_or l i 0 → get_or r h 0 ≡ get_or r i 0 →
      b ≡ every (same_child c k i h) (up_from 0 (get_or r i 0)) → b ≡ twin l r c j k i h
  unfolding twin
  by-children e d f g = and-eq _ _ _ e (and-eq _ _ _ d (and-eq _ _ _ f g))

module _ (l r c : List ℕ) (m j v k i : ℕ) where
  pub of-first : child_at c i k ≡ j → true ≡ frame_of l r c m j v k i
  unfolding frame_of
  of-first e = or-eq _ _ _ e

  pub of_none : (child_at c i k ≡ j → ⊥) → (child_at c i k ≡ v → ⊥) → false ≡ frame_of l r c m j v k i
  unfolding frame_of
  of_none n o = or-ne _ _ _ n (and-ne _ _ _ o)

  pub of-second : (child_at c i k ≡ j → ⊥) → child_at c i k ≡ v → {b : Bool} → b ≡ any (twin l r c j k i) (up_from 0 m) →
      not b ≡ frame_of l r c m j v k i
  unfolding frame_of
  of-second n e d = or-ne _ _ _ n (and-eq _ _ _ e (ap not d))

bit-none : (a b : Bool) → (a ≡ false) ⊎ (b ≡ false) → 0 ≡ bit (a && b)
bit-none a b (inl e) = rw e
bit-none true b (inr e) = rw e
bit-none false b (inr e) = refl

module _ (s : List ℕ) (at k : ℕ) (l r c q : List ℕ) (m j v i : ℕ) where
  pub framed-not : {b : Bool} → b ≡ frame_of l r c m j v k i → b ≡ false → 0 ≡ bit (framed s at k l r c q m j v i)
  framed-not e d = bit-none (frame_of l r c m j v k i) (in_slot s at k l r c q i) (inl (sym e ∙ d))

  pub framed-out : {b : Bool} → b ≡ in_slot s at k l r c q i → b ≡ false → 0 ≡ bit (framed s at k l r c q m j v i)
  framed-out e d = bit-none (frame_of l r c m j v k i) (in_slot s at k l r c q i) (inr (sym e ∙ d))

  pub framed-both : {a b : Bool} → a ≡ frame_of l r c m j v k i → a ≡ true → b ≡ in_slot s at k l r c q i → b ≡ true →
      1 ≡ bit (framed s at k l r c q m j v i)
  framed-both e d f g = rw (← e, d, ← f, g)

-- a node outside the bounds of the parents of j and v has no frame
pub framed-outside : (s : List ℕ) (at k : ℕ) (l r c q : List ℕ) (m j v : ℕ) → k < arity_of s at → (i : ℕ) →
    (k < get_or r i 0 → child_at c i k ≡ j → ⊥) → (k < get_or r i 0 → child_at c i k ≡ v → ⊥) →
    framed s at k l r c q m j v i ≡ false
unfolding frame_of in_slot
framed-outside s at k l r c q m j v h i a b = go (framed s at k l r c q m j v i) refl
  where
    inside : framed s at k l r c q m j v i ≡ true → k < get_or r i 0
    inside e =
        let d = and_left (eqb (get_or r i 0) (arity_of s at)) _
        (and_right (eqb (get_or l i 0) (label_of s at)) _ (and_right (frame_of l r c m j v k i) _ e)) in
        omega (arith, eqb-true (get_or r i 0) (arity_of s at) d)

    child : framed s at k l r c q m j v i ≡ true → (child_at c i k ≡ j) ⊎ (child_at c i k ≡ v)
    child e = cases (or_cases (eqb (child_at c i k) j) _ (and_left (frame_of l r c m j v k i) _ e))
      where
        cases : (eqb (child_at c i k) j ≡ true) ⊎
            ((eqb (child_at c i k) v && not (any (twin l r c j k i) (up_from 0 m))) ≡ true) →
            (child_at c i k ≡ j) ⊎ (child_at c i k ≡ v)
        cases (inl d) = inl (eqb-true (child_at c i k) j d)
        cases (inr d) = inr (eqb-true (child_at c i k) v (and_left (eqb (child_at c i k) v) _ d))

    go : (x : Bool) → framed s at k l r c q m j v i ≡ x → framed s at k l r c q m j v i ≡ false
    go false e = e
    go true e = absurd (refute (child e))
      where
        refute : (child_at c i k ≡ j) ⊎ (child_at c i k ≡ v) → ⊥
        refute (inl d) = a (inside e) d
        refute (inr d) = b (inside e) d

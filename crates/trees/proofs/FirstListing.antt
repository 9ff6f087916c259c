-- The child counts at the start of some bytes show where the listing of the first tree ends.
use mathlib.Core.List.{List, [], ◌++◌, ◌∷◌, append_assoc}
use mathlib.Core.Path.{◌∙◌, ◌≡◌, ap, refl}
use Prim.Native.Nat.{◌+◌, suc, ℕ}
use native.Mathlib.Nat.{suc-add, zero-add}
use native.Mathlib.Omega.{arith}
use lib.ListN.{length, length-append, take}
use lib.Seq.{take-append_seam}
use Rattle.trees.specs.Listing.{first_listing, listed_bytes, listing, listings}
use Rattle.trees.specs.Tree.{Forest, Tree, cons, count, nil, node}

no_bytes : (s : List ℕ) → listed_bytes s 0 ≡ 0
no_bytes [] = refl
no_bytes (h ∷ []) = refl
no_bytes (h ∷ l ∷ []) = refl
no_bytes (h ∷ l ∷ c ∷ s) = refl

mutual
  tree-bytes : (t : Tree) (s : List ℕ) (k : ℕ) →
      listed_bytes (listing t ++ s) (suc k) ≡ length (listing t) + listed_bytes s k
  tree-bytes (node a f) s k = omega (arith, trees-bytes f s k)

  trees-bytes : (f : Forest) (s : List ℕ) (k : ℕ) →
      listed_bytes (listings f ++ s) (count f + k) ≡ length (listings f) + listed_bytes s k
  trees-bytes nil s k = rw (zero-add k) (omega arith)
  trees-bytes (cons t f) s k = go (tree-bytes t (listings f ++ s) (count f + k)) (trees-bytes f s k)
    where
      go : listed_bytes (listing t ++ (listings f ++ s)) (suc (count f + k)) ≡
          length (listing t) + listed_bytes (listings f ++ s) (count f + k) →
          listed_bytes (listings f ++ s) (count f + k) ≡ length (listings f) + listed_bytes s k →
          listed_bytes ((listing t ++ listings f) ++ s) (suc (count f) + k) ≡
          length (listing t ++ listings f) + listed_bytes s k
      go d e =
          rw (append_assoc (listing t) (listings f) s, suc-add (count f) k)
          (omega (arith, d, e, length-append (listing t) (listings f)))

-- the listing of a tree is what its own child counts cut off, whatever follows it
pub first-listing : (t : Tree) (s : List ℕ) → first_listing (listing t ++ s) ≡ listing t
unfolding first_listing
first-listing t s =
    let n : listed_bytes (listing t ++ s) 1 ≡ length (listing t) = omega (arith, tree-bytes t s 0, no_bytes s) in
    ap (λ (k : ℕ). take k (listing t ++ s)) n ∙ take-append_seam (listing t) s

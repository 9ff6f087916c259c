-- The subtrees of a tree in the order of its listing: how many there are, what the listing has from each node on, and
-- what passes from a node to its children passes to all of them.
use mathlib.Core.List.{List, [], ◌++◌, ◌∷◌, append_assoc, append-nil}
use mathlib.Core.Logic.{◌⊎◌, inl, inr}
use mathlib.Core.Path.{◌∙◌, ◌≡◌, ap, refl, subst, sym}
use Prim.Native.Nat.{◌*◌, ◌-◌, ◌≤◌, suc, zero, ℕ}
use native.Mathlib.Omega.{arith}
use lib.ListN.{drop, get_or, length, length-append}
use lib.Seq.{drop-nil}
use lib.Dec.{leb}
use borrow.Author.Tests.{leb-true}
use Rattle.format.specs.Format.{max_listing, max_nodes, node_bytes}
use Rattle.lists.specs.Tests.{◌∈◌}
use Rattle.trees.specs.Listing.{first_trees, later_trees, listing, listing_conditions, listing_refusal, listings}
use Rattle.trees.specs.Listing.{read_tree, read_trees, whole_nodes}
use Rattle.trees.specs.Preorder.{preorder, preorders, subtree_at}
use Rattle.trees.specs.Tree.{AllTrees, Forest, Tree, ◌⧺◌, cons, nil, no_tree, node}
use Rattle.lists.proofs.Conditions.{unbroken-hold}
use Rattle.lists.proofs.Tests.{and_left, and_right, append-in}
use Rattle.trees.proofs.Forests.{first-later}
use Rattle.trees.proofs.Listing.{listing-length, read-trees}
use Rattle.trees.proofs.ListingRefusal.{listing-from-one}

-- ---- how many

mutual
  -- a listing has the bytes of its nodes
  pub preorder-bytes : (t : Tree) → length (listing t) ≡ node_bytes * length (preorder t)
  preorder-bytes (node a f) = omega (arith, preorders-bytes f)

  pub preorders-bytes : (f : Forest) → length (listings f) ≡ node_bytes * length (preorders f)
  preorders-bytes nil = refl
  preorders-bytes (cons t f) =
      omega (
        arith,
        preorder-bytes t,
        preorders-bytes f,
        length-append (listing t) (listings f),
        length-append (preorder t) (preorders f),
      )

-- ---- which

pub preorders-append : (f g : Forest) → preorders (f ⧺ g) ≡ preorders f ++ preorders g
preorders-append nil g = refl
preorders-append (cons t f) g =
    ap (λ r. preorder t ++ r) (preorders-append f g) ∙ sym (append_assoc (preorder t) (preorders f) (preorders g))

-- the subtrees of the trees that bytes list are what the bytes list first from each node on
pub preorders-read : (s : List ℕ) (i : ℕ) → get_or (preorders (read_trees s)) i no_tree ≡ read_tree (drop (node_bytes *
    i) s)
preorders-read [] i = rw (drop-nil (node_bytes * i))
preorders-read (h ∷ []) zero = refl
preorders-read (h ∷ []) (suc i) =
    let e : node_bytes * suc i ≡ suc (suc (suc (node_bytes * i))) = omega arith in
    rw e (ap read_tree (sym (drop-nil (suc (suc (node_bytes * i))))))
preorders-read (h ∷ l ∷ []) zero = refl
preorders-read (h ∷ l ∷ []) (suc i) =
    let e : node_bytes * suc i ≡ suc (suc (suc (node_bytes * i))) = omega arith in
    rw e (ap read_tree (sym (drop-nil (suc (node_bytes * i)))))
preorders-read (h ∷ l ∷ c ∷ s) zero = refl
preorders-read (h ∷ l ∷ c ∷ s) (suc i) =
    let e : node_bytes * suc i ≡ suc (suc (suc (node_bytes * i))) = omega arith in
    rw e
    (ap (λ l. get_or l i no_tree)
    (sym (preorders-append (first_trees c (read_trees s)) (later_trees c (read_trees s)))
    ∙ ap preorders (first-later c (read_trees s))) ∙ preorders-read s i)

-- the subtree at node i of a tree is what its listing lists first from there on (01: a part of a tree)
pub preorder-at : (t : Tree) (i : ℕ) → get_or (preorder t) i no_tree ≡ read_tree (drop (node_bytes * i) (listing t))
preorder-at t i =
    let whole : read_trees (listing t) ≡ cons t nil =
    ap read_trees (sym (append-nil (listing t)) ∙ ap (λ s. s ++ []) (sym (append-nil (listing t))))
    ∙ read-trees (cons t nil) [] in
    ap (λ l. get_or l i no_tree) (sym (append-nil (preorder t)) ∙ ap preorders (sym whole))
    ∙ preorders-read (listing t) i

-- the same of bytes that list one tree
pub preorder-read : (s : List ℕ) → read_trees s ≡ cons (read_tree s) nil → (i : ℕ) →
    read_tree (drop (node_bytes * i) (listing (read_tree s))) ≡ read_tree (drop (node_bytes * i) s)
preorder-read s whole i =
    sym (preorder-at (read_tree s) i)
    ∙ ap (λ l. get_or l i no_tree) (sym (append-nil (preorder (read_tree s))) ∙ ap preorders (sym whole))
    ∙ preorders-read s i

-- the subtree at a place, which counts from 1
pub place_read : (t : Tree) (k : ℕ) → read_tree (drop (node_bytes * (k - 1)) (listing t)) ≡ subtree_at t k
place_read t k = sym (preorder-at t (k - 1))

-- ---- a listing that passes 1 to 4

pub passed-nodes : (s : List ℕ) → listing_refusal s ≡ 0 → length (preorder (read_tree s)) ≤ max_nodes
unfolding listing_refusal listing_conditions whole_nodes
passed-nodes s e =
    let h = unbroken-hold (listing_conditions s) (listing-from-one s) e in
    let short = leb-true (length s) max_listing (and_right (leb node_bytes (length s)) _ (and_left _ _ h.0)) in
    omega (arith, preorder-bytes (read_tree s), listing-length s h.1.1.1.0)

-- ---- what passes to children

module _ (P : Tree → Type 0) (down : (a : ℕ) (f : Forest) → P (node a f) → AllTrees P f) where
  mutual
    pub preorder-all : (t : Tree) → P t → (u : Tree) → u ∈ preorder t → P u
    preorder-all (node a f) h u (inl e) = subst P (sym e) h
    preorder-all (node a f) h u (inr i) = preorders-all f (down a f h) u i

    pub preorders-all : (f : Forest) → AllTrees P f → (u : Tree) → u ∈ preorders f → P u
    preorders-all nil h u i = absurd i
    preorders-all (cons t f) h u i =
        go (λ j. preorder-all t h.0 u j) (λ j. preorders-all f h.1 u j) (append-in (preorder t) (preorders f) u i)
      where
        go : (u ∈ preorder t → P u) → (u ∈ preorders f → P u) → (u ∈ preorder t) ⊎ (u ∈ preorders f) → P u
        go here after (inl j) = here j
        go here after (inr j) = after j

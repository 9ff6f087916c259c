-- Reading undoes listing, listing undoes reading, and what passes 1 to 4 is the listing of a legal tree.
use mathlib.Core.Bool.{false≢true, true}
use mathlib.Core.List.{List, [], ◌++◌, ◌∷◌, append_assoc, append-nil}
use mathlib.Core.Path.{◌∙◌, ◌≡◌, ap, ap₂, refl, subst, subst₂, sym}
use Prim.Native.Nat.{◌%◌, ◌*◌, ◌+◌, ◌/◌, ◌<◌, suc, zero, ℕ}
use native.Mathlib.Nat.{suc-add, zero-add}
use native.Mathlib.Omega.{arith}
use lib.ListN.{drop, get_or, length}
use lib.Seq.{get_or-drop}
use Rattle.format.specs.Format.{AllBytes, byte_values, label_bytes, label_from, label_written, node_bytes}
use Rattle.trees.specs.Legal.{AllLegal, Legal, LegalNode}
use Rattle.trees.specs.Listing.{children_at, first_tree, first_trees, label_at, later_trees, listing, listings}
use Rattle.trees.specs.Listing.{lists_trees, nodes_in, one_tree, read_tree, read_trees}
use Rattle.trees.specs.Tree.{Forest, Tree, ◌⧺◌, cons, count, nil, node}
use Rattle.format.proofs.Labels.{from-written, written_from}
use Rattle.trees.proofs.Forests.{first_count, first-whole, later-count, later-whole, listings-split}

-- ---- reading undoes listing

mutual
  read-tree : (t : Tree) (s : List ℕ) → read_trees (listing t ++ s) ≡ cons t (read_trees s)
  read-tree (node a f) s = go (read-trees f s)
    where
      go : read_trees (listings f ++ s) ≡ f ⧺ read_trees s →
          cons (node (label_from (a / byte_values) (a % byte_values)) (first_trees (count f) (read_trees (listings f ++ s))))
          (later_trees (count f) (read_trees (listings f ++ s))) ≡
          cons (node a f) (read_trees s)
      go e = rw (from-written a, e, first-whole f (read_trees s), later-whole f (read_trees s))

  pub read-trees : (f : Forest) (s : List ℕ) → read_trees (listings f ++ s) ≡ f ⧺ read_trees s
  read-trees nil s = refl
  read-trees (cons t f) s = go (read-tree t (listings f ++ s)) (read-trees f s)
    where
      go : read_trees (listing t ++ (listings f ++ s)) ≡ cons t (read_trees (listings f ++ s)) →
          read_trees (listings f ++ s) ≡ f ⧺ read_trees s →
          read_trees ((listing t ++ listings f) ++ s) ≡ cons t (f ⧺ read_trees s)
      go d e = rw append_assoc (d ∙ ap (cons t) e)

-- the reader gives back the tree that was listed
pub read-listing : (t : Tree) → read_tree (listing t) ≡ t
read-listing t = ap (λ (s : List ℕ). read_tree s) (sym (append-nil (listing t))) ∙ ap first_tree (read-tree t [])

mutual
  tree_lists : (t : Tree) (s : List ℕ) (k : ℕ) → lists_trees (listing t ++ s) (suc k) ≡ lists_trees s k
  tree_lists (node a f) s k = trees-list f s k

  pub trees-list : (f : Forest) (s : List ℕ) (k : ℕ) → lists_trees (listings f ++ s) (count f + k) ≡ lists_trees s k
  trees-list nil s k = rw (zero-add k)
  trees-list (cons t f) s k = go (tree_lists t (listings f ++ s) (count f + k)) (trees-list f s k)
    where
      go : lists_trees (listing t ++ (listings f ++ s)) (suc (count f + k)) ≡ lists_trees (listings f ++ s) (count f +
          k) →
          lists_trees (listings f ++ s) (count f + k) ≡ lists_trees s k →
          lists_trees ((listing t ++ listings f) ++ s) (suc (count f) + k) ≡ lists_trees s k
      go d e = rw (append_assoc (listing t) (listings f) s, suc-add (count f) k) (d ∙ e)

-- the listing of a tree lists exactly one tree
pub listing-one : (t : Tree) → one_tree (listing t) ≡ true
unfolding one_tree
listing-one t = ap (λ (s : List ℕ). lists_trees s 1) (sym (append-nil (listing t))) ∙ tree_lists t [] 0

-- ---- listing undoes reading

-- bytes that list k trees are read as k trees
pub read_count : (s : List ℕ) (k : ℕ) → lists_trees s k ≡ true → count (read_trees s) ≡ k
read_count [] zero e = refl
read_count [] (suc k) e = absurd (false≢true e)
read_count (h ∷ []) zero e = absurd (false≢true e)
read_count (h ∷ []) (suc k) e = absurd (false≢true e)
read_count (h ∷ l ∷ []) zero e = absurd (false≢true e)
read_count (h ∷ l ∷ []) (suc k) e = absurd (false≢true e)
read_count (h ∷ l ∷ c ∷ s) zero e = absurd (false≢true e)
read_count (h ∷ l ∷ c ∷ s) (suc k) e = omega (arith, read_count s (c + k) e, later-count c (read_trees s))

-- the listing of what is read is as long as the bytes
pub read_length : (s : List ℕ) (k : ℕ) → lists_trees s k ≡ true → length (listings (read_trees s)) ≡ length s
read_length [] k e = refl
read_length (h ∷ []) zero e = absurd (false≢true e)
read_length (h ∷ []) (suc k) e = absurd (false≢true e)
read_length (h ∷ l ∷ []) zero e = absurd (false≢true e)
read_length (h ∷ l ∷ []) (suc k) e = absurd (false≢true e)
read_length (h ∷ l ∷ c ∷ s) zero e = absurd (false≢true e)
read_length (h ∷ l ∷ c ∷ s) (suc k) e =
    let q = ap length (listings-split c (read_trees s)) in omega (arith, read_length s (c + k) e)

-- bytes that list k trees are their listing
pub listings-read : (s : List ℕ) (k : ℕ) → AllBytes s → lists_trees s k ≡ true → listings (read_trees s) ≡ s
listings-read [] k b e = refl
listings-read (h ∷ []) zero b e = absurd (false≢true e)
listings-read (h ∷ []) (suc k) b e = absurd (false≢true e)
listings-read (h ∷ l ∷ []) zero b e = absurd (false≢true e)
listings-read (h ∷ l ∷ []) (suc k) b e = absurd (false≢true e)
listings-read (h ∷ l ∷ c ∷ s) zero b e = absurd (false≢true e)
listings-read (h ∷ l ∷ c ∷ s) (suc k) b e =
    go (listings-read s (c + k) (λ i. b (suc (suc (suc i)))) e) (read_count s (c + k) e)
  where
    go : listings (read_trees s) ≡ s → count (read_trees s) ≡ c + k →
        ◌≡◌ {A = List ℕ} (label_written (label_from h l) ++ (count (first_trees c (read_trees s)) ∷
        (listings (first_trees c (read_trees s)) ++ listings (later_trees c (read_trees s))))) (h ∷ l ∷ c ∷ s)
    go r n =
        let w = written_from h l (b 1) in
        let p = first_count c (read_trees s) (omega arith) in
        let q = listings-split c (read_trees s) ∙ r in
        λ i. w i ++ (p i ∷ q i)

one-listing : (f : Forest) → count f ≡ 1 → listing (first_tree f) ≡ listings f
one-listing nil e = absurd (omega arith)
one-listing (cons t nil) e = sym (append-nil (listing t))
one-listing (cons t (cons u f)) e = absurd (omega arith)

-- the tree that is read has the bytes as its listing
pub listing-read : (s : List ℕ) → AllBytes s → one_tree s ≡ true → listing (read_tree s) ≡ s
unfolding one_tree
listing-read s b e = one-listing (read_trees s) (read_count s 1 e) ∙ listings-read s 1 b e

-- its listing is as long as the bytes, whatever they are
pub listing-length : (s : List ℕ) → one_tree s ≡ true → length (listing (read_tree s)) ≡ length s
unfolding one_tree
listing-length s e = ap length (one-listing (read_trees s) (read_count s 1 e)) ∙ read_length s 1 e

-- ---- legal trees

-- every node of the bytes is legal
abbrev pub LegalNodes : List ℕ → Type 0
LegalNodes [] = Unit {0}
LegalNodes (h ∷ []) = Unit {0}
LegalNodes (h ∷ l ∷ []) = Unit {0}
LegalNodes (h ∷ l ∷ c ∷ s) = LegalNode (label_from h l) c × LegalNodes s

-- the bytes of node i + 1 are those of node i after the first node
byte_more : (s : List ℕ) (i j : ℕ) → get_or s (node_bytes * suc i + j) 0 ≡ get_or (drop node_bytes s) (node_bytes * i + j) 0
byte_more s i j =
    let e : node_bytes * suc i + j ≡ node_bytes + (node_bytes * i + j) = omega arith in
    rw e (sym (get_or-drop node_bytes s (node_bytes * i + j) 0))

label-more : (s : List ℕ) (i : ℕ) → label_at s (suc i) ≡ label_at (drop node_bytes s) i
label-more s i =
    let z : (n : ℕ) → n + 0 ≡ n = λ n. omega arith in
    let first = rw (z (node_bytes * suc i), z (node_bytes * i)) at (byte_more s i 0) in
    ap₂ label_from first (byte_more s i 1)

children-more : (s : List ℕ) (i : ℕ) → children_at s (suc i) ≡ children_at (drop node_bytes s) i
children-more s i = byte_more s i label_bytes

-- node i, by its bytes
abbrev pub LegalAt : List ℕ → ℕ → Type 0
LegalAt s i = LegalNode (label_at s i) (children_at s i)

pub index-nodes : (s : List ℕ) → ((i : ℕ) → i < nodes_in s → LegalAt s i) → LegalNodes s
index-nodes [] h = tt
index-nodes (x ∷ []) h = tt
index-nodes (x ∷ y ∷ []) h = tt
index-nodes (x ∷ y ∷ c ∷ s) h = (
  h 0 (omega arith),
  index-nodes s (λ i l. subst₂ LegalNode (label-more (x ∷ y ∷ c ∷ s) i) (children-more (x ∷ y ∷ c ∷ s) i) (h (suc i)
      (omega arith))),
)

pub nodes-index : (s : List ℕ) → LegalNodes s → (i : ℕ) → i < nodes_in s → LegalAt s i
nodes-index [] h i l = absurd (omega arith)
nodes-index (x ∷ []) h i l = absurd (omega arith)
nodes-index (x ∷ y ∷ []) h i l = absurd (omega arith)
nodes-index (x ∷ y ∷ c ∷ s) h zero l = h.0
nodes-index (x ∷ y ∷ c ∷ s) h (suc i) l =
    subst₂ LegalNode (sym (label-more (x ∷ y ∷ c ∷ s) i)) (sym (children-more (x ∷ y ∷ c ∷ s) i))
    (nodes-index s h.1 i (omega arith))

first-legal : (c : ℕ) (f : Forest) → AllLegal f → AllLegal (first_trees c f) × AllLegal (later_trees c f)
first-legal zero f h = (tt, h)
first-legal (suc c) nil h = (tt, tt)
first-legal (suc c) (cons t f) h = let r = first-legal c f h.1 in ((h.0, r.0), r.1)

pub read-legal : (s : List ℕ) (k : ℕ) → lists_trees s k ≡ true → LegalNodes s → AllLegal (read_trees s)
read-legal [] k e h = tt
read-legal (x ∷ []) k e h = tt
read-legal (x ∷ y ∷ []) k e h = tt
read-legal (x ∷ y ∷ c ∷ s) zero e h = absurd (false≢true e)
read-legal (x ∷ y ∷ c ∷ s) (suc k) e h = go (read-legal s (c + k) e h.1) (read_count s (c + k) e)
  where
    go : AllLegal (read_trees s) → count (read_trees s) ≡ c + k →
        (LegalNode (label_from x y) (count (first_trees c (read_trees s))) × AllLegal (first_trees c (read_trees s))) ×
        AllLegal (later_trees c (read_trees s))
    go l n =
        let r = first-legal c (read_trees s) l in
        ((subst (LegalNode (label_from x y)) (sym (first_count c (read_trees s) (omega arith))) h.0, r.0), r.1)

mutual
  pub tree-nodes : (t : Tree) (s : List ℕ) → Legal t → LegalNodes s → LegalNodes (listing t ++ s)
  tree-nodes (node a f) s h k =
      (subst (λ b. LegalNode b (count f)) (sym (from-written a)) h.0, trees-nodes f s h.1 k)

  trees-nodes : (f : Forest) (s : List ℕ) → AllLegal f → LegalNodes s → LegalNodes (listings f ++ s)
  trees-nodes nil s h k = k
  trees-nodes (cons t f) s h k = go (trees-nodes f s h.1 k) (λ r m. tree-nodes t r h.0 m)
    where
      go : LegalNodes (listings f ++ s) → ((r : List ℕ) → LegalNodes r → LegalNodes (listing t ++ r)) →
          LegalNodes ((listing t ++ listings f) ++ s)
      go m ih = subst LegalNodes (sym (append_assoc (listing t) (listings f) s)) (ih (listings f ++ s) m)

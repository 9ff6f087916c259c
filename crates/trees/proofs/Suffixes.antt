-- What is left of a listing from a node on: it lists trees, of which the node takes its children.
use mathlib.Core.Bool.{◌&&◌, false≢true, true}
use mathlib.Core.List.{List, [], ◌∷◌}
use mathlib.Core.Path.{◌∙◌, ◌≡◌, ap, refl, sym}
use Prim.Native.Nat.{◌%◌, ◌*◌, ◌+◌, ◌<◌, ◌≤◌, suc, zero, ℕ}
use native.Mathlib.Omega.{arith}
use lib.Dec.{leb}
use lib.ListN.{drop, drop_of_length-le, get_or, length}
use lib.Seq.{drop-cons}
use borrow.Author.Tests.{eqb-true, leb-true}
use Rattle.format.specs.Format.{label_bytes, max_arity, max_listing, max_nodes, node_bytes}
use Rattle.trees.specs.Listing.{all_narrow, children_at, first_tree, first_trees, label_at, later_trees}
use Rattle.trees.specs.Listing.{listing_conditions, listing_refusal, lists_trees, narrow, nodes_in, one_tree, read_tree}
use Rattle.trees.specs.Listing.{read_trees, whole_nodes}
use Rattle.trees.specs.Tree.{Forest, cons, count, nil, node}
use Rattle.lists.proofs.Conditions.{AllHold, unbroken-hold}
use Rattle.lists.proofs.Intervals.{every-at}
use Rattle.lists.proofs.Tests.{and_left, and_right}
use Rattle.trees.proofs.Listing.{read_count}
use Rattle.trees.proofs.ListingRefusal.{listing-from-one}

-- what 1 to 4 say of a listing, by node
pub record Passed (s : List ℕ) : Type 0 where
  pub even : length s ≡ node_bytes * nodes_in s
  pub short : nodes_in s ≤ max_nodes
  pub narrow : (i : ℕ) → i < nodes_in s → children_at s i ≤ max_arity
  pub lists : lists_trees s 1 ≡ true

pub passed : (s : List ℕ) → listing_refusal s ≡ 0 → Passed s
unfolding listing_refusal listing_conditions whole_nodes all_narrow one_tree
passed s e = go (unbroken-hold (listing_conditions s) (listing-from-one s) e)
  where
    go : AllHold (listing_conditions s) → Passed s
    go h =
        let first = leb node_bytes (length s) in
        let small = leb-true (length s) max_listing (and_right first _ (and_left _ _ h.0)) in
        let whole = eqb-true (length s % node_bytes) 0 (and_right (first && leb (length s) max_listing) _ h.0) in
        record {
          even = omega arith;
          short = omega arith;
          narrow = λ i b. leb-true (children_at s i) max_arity
              (every-at (narrow s) 0 (nodes_in s) h.1.1.0 i (omega arith) (omega arith));
          lists = h.1.1.1.0;
        }

-- the bytes from node i on
abbrev pub nodes_from : List ℕ → ℕ → List ℕ
nodes_from s i = drop (node_bytes * i) s

module _ {s : List ℕ} (ok : Passed s) where
  pub nodes-end : nodes_from s (nodes_in s) ≡ []
  nodes-end = drop_of_length-le s {i = node_bytes * nodes_in s} (omega (arith, ok.even))

  -- a byte, and the bytes after it
  byte_next : (k n : ℕ) → k < length s → n ≡ suc k → drop k s ≡ get_or s k 0 ∷ drop n s
  byte_next k n h e = drop-cons s k 0 h ∙ ap (λ m. get_or s k 0 ∷ drop m s) (sym e)

  nodes-next : (i : ℕ) → i < nodes_in s → nodes_from s i ≡
      get_or s (node_bytes * i) 0 ∷ get_or s (node_bytes * i + 1) 0 ∷ children_at s i ∷ nodes_from s (i + 1)
  nodes-next i h =
      byte_next (node_bytes * i) (node_bytes * i + 1) (omega (arith, ok.even)) (omega arith) ∙
      ap (λ (l : List ℕ). get_or s (node_bytes * i) 0 ∷ l)
      (byte_next (node_bytes * i + 1) (node_bytes * i + label_bytes) (omega (arith, ok.even)) (omega arith) ∙
      ap (λ (l : List ℕ). get_or s (node_bytes * i + 1) 0 ∷ l)
      (byte_next (node_bytes * i + label_bytes) (node_bytes * (i + 1)) (omega (arith, ok.even)) (omega arith)))

  -- a node takes its children off the trees after it
  pub read_next : (i : ℕ) → i < nodes_in s →
      read_trees (nodes_from s i) ≡
      cons (node (label_at s i) (first_trees (children_at s i) (read_trees (nodes_from s (i + 1)))))
      (later_trees (children_at s i) (read_trees (nodes_from s (i + 1))))
  read_next i h = ap read_trees (nodes-next i h)

  -- how many trees a node's children leave to come
  lists-next : (x y c : ℕ) (r : List ℕ) (k : ℕ) → lists_trees (x ∷ y ∷ c ∷ r) k ≡ true →
      (m : ℕ) × (lists_trees r (c + m) ≡ true)
  lists-next x y c r zero e = absurd (false≢true e)
  lists-next x y c r (suc k) e = (k, e)

  lists-after : (i : ℕ) → i < nodes_in s → (k : ℕ) → lists_trees (nodes_from s i) k ≡ true →
      (m : ℕ) × (lists_trees (nodes_from s (i + 1)) (children_at s i + m) ≡ true)
  lists-after i h k e =
      lists-next (get_or s (node_bytes * i) 0) (get_or s (node_bytes * i + 1) 0) (children_at s i) (nodes_from s (i + 1)) k
      (ap (λ l. lists_trees l k) (sym (nodes-next i h)) ∙ e)

  lists-from : (i : ℕ) → i ≤ nodes_in s → (k : ℕ) × (lists_trees (nodes_from s i) k ≡ true)
  lists-from zero h = (1, ok.lists)
  lists-from (suc i) h = go (lists-from i (omega arith))
    where
      go : (k : ℕ) × (lists_trees (nodes_from s i) k ≡ true) → (k : ℕ) × (lists_trees (nodes_from s (suc i)) k ≡ true)
      go (k, e) =
          let z : i + 1 ≡ suc i = omega arith in
          let r = lists-after i (omega arith) k e in
          (children_at s i + r.0, ap (λ n. lists_trees (nodes_from s n) (children_at s i + r.0)) (sym z) ∙ r.1)

  pub children-there : (i : ℕ) → i < nodes_in s → children_at s i ≤ count (read_trees (nodes_from s (i + 1)))
  children-there i h =
      let (k, e) = lists-from i (omega arith) in
      let r = lists-after i h k e in
      omega (arith, read_count (nodes_from s (i + 1)) (children_at s i + r.0) r.1)

  one-forest : (f : Forest) → count f ≡ 1 → f ≡ cons (first_tree f) nil
  one-forest nil e = absurd (omega arith)
  one-forest (cons t nil) e = refl
  one-forest (cons t (cons u f)) e = absurd (omega arith)

  -- at the start there is one tree
  pub read_whole : read_trees (nodes_from s 0) ≡ cons (read_tree s) nil
  read_whole = one-forest (read_trees s) (read_count s 1 ok.lists)

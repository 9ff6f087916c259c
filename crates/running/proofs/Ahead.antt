-- Trees that bytes start with: the first of them and the others, a root and its children.
use mathlib.Core.List.{List, ◌++◌, ◌∷◌, append_assoc, append-nil}
use mathlib.Core.Path.{◌∙◌, ◌≡◌, ap, refl, subst, sym}
use Prim.Native.Nat.{◌*◌, ◌+◌, ◌-◌, ◌<◌, ◌≤◌, suc, ℕ}
use native.Mathlib.Omega.{arith}
use lib.ListN.{drop, get_or, length, length-append}
use lib.Seq.{drop_at}
use Rattle.format.specs.Format.{label_bytes, label_written, max_arity, max_nodes, node_bytes}
use Rattle.running.specs.Running.{Ahead}
use Rattle.trees.specs.Legal.{AllLegal, Legal, LegalNode}
use Rattle.trees.specs.Listing.{first_tree, first_trees, label_at, listing, listings, read_tree, read_trees}
use Rattle.trees.specs.Preorder.{preorder, preorders}
use Rattle.trees.specs.Tree.{Forest, Tree, cons, count, nil, node}
use Rattle.format.proofs.Labels.{from-written}
use Rattle.lists.proofs.Parts.{part, part-drop, part_length}
use Rattle.trees.proofs.Forests.{first-whole}
use Rattle.trees.proofs.Listing.{read-trees}
use Rattle.trees.proofs.ListingRefusal.{listing-least}
use Rattle.trees.proofs.Preorder.{preorder-bytes, preorders-bytes}

-- the children from place k on are one and those after it
pub one_more : {k n : ℕ} → k ≤ n → (k ≡ n → ⊥) → n - k ≡ suc (n - (k + 1))
one_more h d = omega arith

-- the trees ahead are those that are read
pub ahead-first : {s : List ℕ} {k at : ℕ} (v : Ahead s k at) → first_trees k (read_trees s) ≡ v.trees
ahead-first v =
    rw (v.bytes, read-trees v.trees v.rest, ← v.many) (first-whole v.trees (read_trees v.rest))

ahead_within : {s : List ℕ} {k at : ℕ} → Ahead s k at →
    length (listings (first_trees k (read_trees s))) ≤ length s
ahead_within v =
    rw (ahead-first v) (omega (arith, simp length-append at (ap length v.bytes)))

pub ahead-nodes : {s : List ℕ} {k at : ℕ} → Ahead s k at →
    node_bytes * length (preorders (first_trees k (read_trees s))) ≤ length s
ahead-nodes {s} {k} v = omega (arith, ahead_within v, preorders-bytes (first_trees k (read_trees s)))

-- the first tree, and i others
pub record Split (s : List ℕ) (i : ℕ) : Type 0 where
  pub tree : Tree
  pub others : Forest
  pub rest : List ℕ
  pub many : count others ≡ i
  pub legal : Legal tree
  pub others-legal : AllLegal others
  pub bytes : s ≡ listing tree ++ (listings others ++ rest)
  pub reads : read_tree s ≡ tree

pub split : {s : List ℕ} {i at : ℕ} → Ahead s (suc i) at → Split s i
split {s} {i} v = go v.trees v.many v.legal v.bytes
  where
    go : (f : Forest) → count f ≡ suc i → AllLegal f → s ≡ listings f ++ v.rest → Split s i
    go nil n l e = absurd (omega arith)
    go (cons t f) n l e = record {
      tree = t;
      others = f;
      rest = v.rest;
      many = omega arith;
      legal = l.0;
      others-legal = l.1;
      bytes = e ∙ append_assoc (listing t) (listings f) v.rest;
      reads = ap read_tree e ∙ ap first_tree (read-trees (cons t f) v.rest);
    }

-- trees ahead, the first split off: j of them are one and i
module _ {s : List ℕ} {j at : ℕ} (v : Ahead s j at) {i : ℕ} (e : j ≡ suc i) where
  parts : Split s i
  parts = split (subst (λ n. Ahead s n at) e v)

  pub first-ahead : Ahead s 1 at
  first-ahead = record {
    trees = cons parts.tree nil;
    rest = listings parts.others ++ parts.rest;
    many = refl;
    legal = (parts.legal, tt);
    bytes = rw append-nil parts.bytes;
    room = v.room;
  }

-- the first of j trees ahead is run, and has m nodes; i others stand after it
pub record FirstRun (s : List ℕ) (j i at m : ℕ) : Type 0 where
  pub ahead : Ahead s j at
  pub more : j ≡ suc i
  pub nodes : m ≡ length (preorder (read_tree s))

module _ {s : List ℕ} {j i at m : ℕ} (w : FirstRun s j i at m) where
  abbrev cut : Split s i
  cut = parts w.ahead w.more

  first-bytes : length (listing (read_tree s)) ≡ node_bytes * m
  first-bytes = preorder-bytes (read_tree s) ∙ ap (λ n. node_bytes * n) (sym w.nodes)

  behind : part s (node_bytes * m) ≡ listings cut.others ++ cut.rest
  behind =
      part-drop s (node_bytes * m) ∙ ap (drop (node_bytes * m)) cut.bytes ∙
      drop_at (listing cut.tree) _ (node_bytes * m) (ap (λ t. length (listing t)) (sym cut.reads) ∙ first-bytes)

  pub first-within : node_bytes * m ≤ length s
  first-within =
      let l = ap (λ t. length (listing t)) cut.reads in
      omega (arith, first-bytes, simp length-append at (ap length cut.bytes))

  -- the nodes up to its last have their rows and bytes
  pub first-room : at + m ≤ max_nodes
  first-room = omega (arith, first-within, w.ahead.room)

  -- fewer bytes stand after it
  pub first-shorter : length (part s (node_bytes * m)) < length s
  first-shorter =
      omega (arith, part_length s (node_bytes * m), first-within, first-bytes, listing-least (read_tree s))

  pub others-ahead : Ahead (part s (node_bytes * m)) i (at + m)
  others-ahead = record {
    trees = cut.others;
    rest = cut.rest;
    many = cut.many;
    legal = cut.others-legal;
    bytes = behind;
    room = omega (arith, part_length s (node_bytes * m), first-within, w.ahead.room);
  }

  pub first-others :
      first_trees j (read_trees s) ≡ cons (read_tree s) (first_trees i (read_trees (part s (node_bytes * m))))
  first-others =
      let whole = ap read_trees cut.bytes ∙ ap read_trees (sym (append_assoc (listing cut.tree) _ _))
      ∙ read-trees (cons cut.tree cut.others) cut.rest in
      rw (w.more, whole, behind, read-trees cut.others cut.rest)

  -- the nodes of all of them are few
  pub others-room : {l : ℕ} → l ≡ length (preorders (first_trees i (read_trees (part s (node_bytes * m))))) →
      m + l ≤ max_nodes
  others-room d =
      omega (
        arith,
        ahead-nodes others-ahead,
        part_length s (node_bytes * m),
        first-within,
        w.ahead.room,
      )

-- a tree ahead: its root, and its children in the part after that
module _ {s : List ℕ} {at : ℕ} (v : Ahead s 1 at) where
  pub record Root : Type 0 where
    pub children : Forest
    pub rest : List ℕ
    pub label : LegalNode (label_at s 0) (count children)
    pub below : AllLegal children
    pub bytes : s ≡ label_written (label_at s 0) ++ (count children ∷ (listings children ++ rest))
    pub reads : read_tree s ≡ node (label_at s 0) children

  root : Root
  root = go (split v) (split v).tree (split v).legal (split v).bytes (split v).reads
    where
      go : (w : Split s 0) (t : Tree) → Legal t → s ≡ listing t ++ (listings w.others ++ w.rest) →
          read_tree s ≡ t → Root
      go w (node a f) l e r =
          let d : label_at s 0 ≡ a = ap (λ b. label_at b 0) e ∙ from-written a in
          record {
            children = f;
            rest = listings w.others ++ w.rest;
            label = subst (λ b. LegalNode b (count f)) (sym d) l.0;
            below = l.1;
            bytes = e ∙ ap (λ b. label_written b ++ (count f ∷ (listings f ++ (listings w.others ++ w.rest)))) (sym
                d);
            reads = r ∙ ap (λ b. node b f) (sym d);
          }

  arity-count : get_or s label_bytes 0 ≡ count root.children
  arity-count = ap (λ b. get_or b label_bytes 0) root.bytes

  pub root-size : node_bytes ≤ length s
  root-size = omega (arith, ap length root.bytes)

  pub root-arity : get_or s label_bytes 0 ≤ max_arity
  root-arity = omega (arith, arity-count, root.label.arity)

  pub root-row : at < max_nodes
  root-row = omega (arith, root-size, v.room)

  -- k is the number of children
  module _ (k : ℕ) (e : k ≡ get_or s label_bytes 0) where
    pub children-ahead : Ahead (part s node_bytes) k (at + 1)
    children-ahead = record {
      trees = root.children;
      rest = root.rest;
      many = sym (e ∙ arity-count);
      legal = root.below;
      bytes = part-drop s node_bytes ∙ ap (drop node_bytes) root.bytes;
      room = omega (arith, part_length s node_bytes, root-size, v.room);
    }

    pub root-reads : read_tree s ≡ node (label_at s 0) (first_trees k (read_trees (part s node_bytes)))
    unfolding children-ahead
    root-reads = root.reads ∙ ap (node (label_at s 0)) (sym (ahead-first children-ahead))

-- the nodes of a tree ahead have their rows and bytes
pub few-nodes : {s : List ℕ} → Ahead s 1 0 → length (preorder (read_tree s)) ≤ max_nodes
few-nodes {s} v =
    let w : FirstRun s 1 0 0 (length (preorder (read_tree s))) = record { ahead = v; more = refl; nodes = refl } in
    omega (arith, first-room w)

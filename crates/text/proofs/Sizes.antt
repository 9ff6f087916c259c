-- Sizes: a tree's listing against its text, and a listing written byte by byte.
use Rattle.std.proofs.Common.{◌≡◌, ℕ, suc, ◌+◌, ◌*◌, ◌<◌, ◌≤◌, List, [], ◌∷◌, ◌++◌, length, drop, set, sym, refl, ap, ◌∙◌, add-zero, arith, length-append, length-drop}
use lib.Seq.{length-sets, set_comm, sets}
use Rattle.format.specs.Format.{node_bytes}
use Rattle.text.specs.Clauses.{ChildrenText, TreeText}
use Rattle.text.specs.Columns.{OnLine}
use Rattle.text.specs.Grammar.{children_text, close_bracket, label_text, tree_text}
use Rattle.text.specs.declared.cursor.Cursor.{Cursor}
use Rattle.trees.specs.Listing.{listing, listings}
use Rattle.trees.specs.Tree.{Forest, Tree, cons, count, nil, node}
use Rattle.lists.proofs.Decimal.{decimal-some}
use Rattle.text.proofs.Cursors.{ahead-on-line}

-- n nodes have a listing of n times a node's bytes, and a text of 4 n, but for the first node's space
pub record TreeSize (t : Tree) : Type 0 where
  pub nodes : ℕ
  pub some : 1 ≤ nodes
  pub listed : length (listing t) ≡ node_bytes * nodes
  pub text : 4 * nodes ≤ length (tree_text t) + 1

pub record ForestSize (f : Forest) : Type 0 where
  pub nodes : ℕ
  pub trees : count f ≤ nodes
  pub listed : length (listings f) ≡ node_bytes * nodes
  pub text : 4 * nodes ≤ length (children_text f)

mutual
  pub tree-size : (t : Tree) → TreeSize t
  tree-size (node a f) = go (forest-size f)
    where
      go : ForestSize f → TreeSize (node a f)
      go x =
          let l = length-append (label_text a) (children_text f ++ (close_bracket ∷ [])) in
          let k = length-append (children_text f) (close_bracket ∷ []) in
          record {
            nodes = suc x.nodes;
            some = omega arith;
            listed = omega (arith, x.listed);
            text = omega (arith, x.text, l, k, decimal-some a);
          }

  pub forest-size : (f : Forest) → ForestSize f
  forest-size nil = record { nodes = 0; trees = omega arith; listed = refl; text = omega arith }
  forest-size (cons t f) = go (tree-size t) (forest-size f)
    where
      go : TreeSize t → ForestSize f → ForestSize (cons t f)
      go x y =
          let l = length-append (listing t) (listings f) in
          let k = length-append (tree_text t) (children_text f) in
          record {
            nodes = x.nodes + y.nodes;
            trees = omega (arith, x.some, y.trees);
            listed = omega (arith, l, x.listed, y.listed);
            text = omega (arith, k, x.text, y.text);
          }

pub sets-append : (l : List ℕ) (i : ℕ) (v w : List ℕ) → sets l i (v ++ w) ≡ sets (sets l i v) (i + length v) w
sets-append l i [] w = rw (add-zero i)
sets-append l i (x ∷ v) w =
    let e : suc i + length v ≡ i + suc (length v) = omega arith in
    rw (← e) (sets-append (set l i x) (suc i) v w)

-- a byte before those written
pub set-sets : (l : List ℕ) (i a j : ℕ) (v : List ℕ) → i < j → set (sets l j v) i a ≡ sets (set l i a) j v
set-sets l i a j [] h = refl
set-sets l i a j (x ∷ v) h =
    set-sets (set l j x) i a (suc j) v (omega arith) ∙
    ap (λ m. sets m (suc j) v) (sym (set_comm l i j a x (λ e. absurd (omega arith))))

-- what was read ends on the line, and takes at most the bytes of a node in the listing for each byte of the text
pub record Bounds (s : List ℕ) (c : Cursor) (l : List ℕ) (at : ℕ) (m : List ℕ) (d : Cursor) (u : ℕ) : Type 0 where
  pub line : OnLine s d
  pub further : c.place < d.place
  pub used : u + node_bytes * c.place ≤ at + node_bytes * d.place
  pub size : length m ≡ length l

module _ {s : List ℕ} {c : Cursor} {l : List ℕ} {at : ℕ} {m : List ℕ} {d : Cursor} {u : ℕ} (o : OnLine s c) where
  pub tree-bounds : TreeText s c l at m d u → Bounds s c l at m d u
  tree-bounds x =
      let z = tree-size x.tree in
      let e = ap length x.text ∙ length-append (tree_text x.tree) (drop d.place s) in
      let f = x.after in
      record {
        line = ahead-on-line o f (omega (arith, e, length-drop c.place s, length-drop d.place s));
        further = omega (arith, z.some, z.text);
        used = omega (arith, z.listed, z.text, x.end);
        size = ap length x.written ∙ length-sets l at (listing x.tree);
      }

  pub children-bounds : {k : ℕ} → ChildrenText s c l at m k d u → Bounds s c l at m d u × (4 * k + c.place < d.place)
  children-bounds x =
      let z = forest-size x.trees in
      let e = ap length x.text ∙ length-append (children_text x.trees) (close_bracket ∷ drop d.place s) in
      let f = x.after in (
        record {
          line = ahead-on-line o f (omega (arith, e, length-drop c.place s, length-drop d.place s));
          further = omega arith;
          used = omega (arith, z.listed, z.text, x.end);
          size = ap length x.written ∙ length-sets l at (listings x.trees);
        },
        omega (arith, z.trees, z.text, x.number),
      )

-- Refusals 1 to 4 in 01's words: bytes pass exactly when they are the listing of a legal tree of at most
-- 48 nodes.
use mathlib.Core.Bool.{◌&&◌, not, true}
use mathlib.Core.List.{List, [], append-nil}
use mathlib.Core.Logic.{◌↔◌}
use mathlib.Core.Path.{◌≡◌, ap, refl, subst, sym}
use Prim.Native.Nat.{◌%◌, ◌*◌, ◌+◌, ◌<◌, ◌≤◌, ℕ}
use native.Mathlib.Omega.{arith}
use lib.Dec.{eqb, leb}
use lib.ListN.{length, length-append}
use borrow.Author.Tests.{eq-eqb, eqb-false, le-leb, leb-true, ne_eqb, not-true}
use Rattle.format.specs.Format.{AllBytes, max_arity, max_listing, node_bytes}
use Rattle.lists.specs.Conditions.{first_broken}
use Rattle.lists.specs.Positions.{up_from}
use Rattle.lists.specs.Tests.{◌∈◌}
use Rattle.trees.specs.Legal.{AllLegal, Legal, ListsLegal}
use Rattle.trees.specs.Listing.{all_labelled, all_narrow, children_at, first_tree, label_at, labelled, listing}
use Rattle.trees.specs.Listing.{listing_conditions, listing_refusal, listings, narrow, nodes_in, one_tree}
use Rattle.trees.specs.Listing.{read_tree, read_trees, whole_nodes}
use Rattle.trees.specs.Tree.{Forest, Tree, cons, count, nil, node}
use Rattle.format.proofs.Labels.{from-most}
use Rattle.lists.proofs.Conditions.{AllHold, FromOne, hold-unbroken, unbroken-hold}
use Rattle.lists.proofs.Positions.{in-up_from, up_from-in}
use Rattle.lists.proofs.Tests.{and_both, and_left, and_right, every_in, in-every}
use Rattle.trees.proofs.Listing.{LegalAt, LegalNodes, index-nodes, listing-one, listing-read}
use Rattle.trees.proofs.Listing.{nodes-index, read_count, read-legal, tree-nodes}

pub listing-from-one : (s : List ℕ) → FromOne (listing_conditions s)
unfolding listing_conditions
listing-from-one s = omega arith

first-legal-tree : (f : Forest) → count f ≡ 1 → AllLegal f → Legal (first_tree f)
first-legal-tree nil e h = absurd (omega arith)
first-legal-tree (cons t f) e h = h.0

node-legal : (s : List ℕ) → AllBytes s → all_labelled s ≡ true → all_narrow s ≡ true → (i : ℕ) → i < nodes_in s →
    LegalAt s i
unfolding all_labelled all_narrow
node-legal s b l n i h =
    let there = in-up_from 0 (nodes_in s) i (omega arith) (omega arith) in
    let p = eqb-false (label_at s i) 0 (not-true (eqb (label_at s i) 0) (every_in (labelled s) (up_from 0 (nodes_in s))
    l i there)) in
    let q = leb-true (children_at s i) max_arity (every_in (narrow s) (up_from 0 (nodes_in s)) n i there) in
    record { label = (omega arith, from-most _ _ (b (node_bytes * i)) (b (node_bytes * i + 1))); arity = q }

-- what passes 1 to 4 lists a legal tree, and that tree is the one that is read
pub passed-legal : (s : List ℕ) → AllBytes s → AllHold (listing_conditions s) → Legal (read_tree s)
unfolding listing_conditions one_tree
passed-legal s b (w, (l, (n, (o, u)))) =
    first-legal-tree (read_trees s) (read_count s 1 o)
    (read-legal s 1 o (index-nodes s (node-legal s b l n)))

legal-nodes : (t : Tree) → Legal t → LegalNodes (listing t)
legal-nodes t h = subst LegalNodes (append-nil (listing t)) (tree-nodes t [] h tt)

mutual
  listing-even : (t : Tree) → length (listing t) % node_bytes ≡ 0
  listing-even (node a f) = let e = listings-even f in omega arith

  listings-even : (f : Forest) → length (listings f) % node_bytes ≡ 0
  listings-even nil = refl
  listings-even (cons t f) =
      let d = listing-even t in
      let e = listings-even f in
      omega (arith, length-append (listing t) (listings f))

pub listing-least : (t : Tree) → node_bytes ≤ length (listing t)
listing-least (node a f) = omega arith

pub legal-passed : (t : Tree) → Legal t → length (listing t) ≤ max_listing → AllHold (listing_conditions (listing t))
unfolding listing_conditions whole_nodes all_labelled all_narrow
legal-passed t h m =
    let s : List ℕ = listing t in
    let at : (i : ℕ) → i ∈ up_from 0 (nodes_in s) → LegalAt s i = λ i j.
    nodes-index s (legal-nodes t h) i (omega (arith, up_from-in 0 (nodes_in s) i j)) in
    let whole : (leb node_bytes (length s) && leb (length s) max_listing && eqb (length s % node_bytes) 0) ≡ true =
    and_both (and_both (le-leb node_bytes (length s) (listing-least t)) (le-leb (length s) max_listing m))
    (eq-eqb (length s % node_bytes) 0 (listing-even t)) in
    let labels = in-every (labelled s) (up_from 0 (nodes_in s)) (λ i j.
    ap not (ne_eqb (label_at s i) 0 (λ e. omega (arith, (at i j).label.0)))) in
    let counts = in-every (narrow s) (up_from 0 (nodes_in s)) (λ i j.
    le-leb (children_at s i) max_arity (at i j).arity) in
    (whole, (labels, (counts, (listing-one t, tt))))

-- 01, refusals 1 to 4
pub listing-iff : (s : List ℕ) → AllBytes s → (listing_refusal s ≡ 0) ↔ ListsLegal s
unfolding listing_refusal listing_conditions whole_nodes
listing-iff s b = (to, from)
  where
    to : first_broken (listing_conditions s) ≡ 0 → ListsLegal s
    to e = go (unbroken-hold (listing_conditions s) (listing-from-one s) e)
      where
        go : AllHold (listing_conditions s) → ListsLegal s
        go h =
            let l = listing-read s b h.1.1.1.0 in
            record {
              tree = read_tree s;
              legal = passed-legal s b h;
              short = rw l (leb-true (length s) max_listing (and_right (leb node_bytes (length s)) _ (and_left _ _ h.0)));
              lists = sym l;
            }

    from : ListsLegal s → first_broken (listing_conditions s) ≡ 0
    from t =
        hold-unbroken (listing_conditions s)
        (subst (λ (r : List ℕ). AllHold (listing_conditions r)) (sym t.lists) (legal-passed t.tree t.legal
        t.short))

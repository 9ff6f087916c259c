-- A listing that passed 1 to 4 can be run.
use mathlib.Core.Bool.{true}
use mathlib.Core.List.{List, [], append-nil}
use mathlib.Core.Path.{◌∙◌, ◌≡◌, ap, sym}
use Prim.Native.Nat.{◌≤◌, ℕ}
use native.Mathlib.Omega.{arith}
use lib.ListN.{length}
use Rattle.format.specs.Format.{AllBytes, max_listing}
use Rattle.running.specs.Running.{Ahead}
use Rattle.trees.specs.Listing.{listing, listing_refusal, listings, lists_trees, one_tree, read_trees}
use Rattle.trees.proofs.Listing.{LegalNodes, listing-one, listings-read, read_count, read-legal, tree-nodes}
use Rattle.trees.proofs.ListingRefusal.{listing-iff}

listed-ahead : (s : List ℕ) (k : ℕ) → AllBytes s → lists_trees s k ≡ true → LegalNodes s → length s ≤ max_listing →
    Ahead s k 0
listed-ahead s k b e h l = record {
  trees = read_trees s;
  rest = [];
  many = read_count s k e;
  legal = read-legal s k e h;
  bytes = sym (append-nil (listings (read_trees s)) ∙ listings-read s k b e);
  room = omega arith;
}

-- what a listing is that passed 1 to 4
passed : (s : List ℕ) → AllBytes s → listing_refusal s ≡ 0 →
    (lists_trees s 1 ≡ true) × LegalNodes s × (length s ≤ max_listing)
unfolding one_tree
passed s b e =
    let l = (listing-iff s b).0 e in
    let nodes = tree-nodes l.tree [] l.legal tt in (
      rw l.lists (listing-one l.tree),
      rw (l.lists, ← append-nil (listing l.tree)) nodes,
      omega (arith, l.short, ap length l.lists),
    )

pub listing-ahead : (s : List ℕ) → AllBytes s → listing_refusal s ≡ 0 → Ahead s 1 0
listing-ahead s b e = let (one, legal, short) = passed s b e in listed-ahead s 1 b one legal short

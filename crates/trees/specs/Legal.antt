-- The trees that a table can hold: labels 1 to 65,535, at most eight children a node.
use Rattle.std.specs.Prelude.{List, ◌≡◌, ◌≤◌, ℕ, length}
use Rattle.format.specs.Format.{max_arity, max_label, max_listing}
use Rattle.trees.specs.Listing.{listing}
use Rattle.trees.specs.Tree.{Forest, Tree, cons, count, nil, node}

-- a label and a number of children that are within the limits
pub record LegalNode (a k : ℕ) : Type 0 where
  pub label : (1 ≤ a) × (a ≤ max_label)
  pub arity : k ≤ max_arity

-- every node of the tree, and of a list of trees, is within the limits
abbrev mutual
  pub Legal : Tree → Type 0
  Legal (node a f) = LegalNode a (count f) × AllLegal f

  pub AllLegal : Forest → Type 0
  AllLegal nil = Unit {0}
  AllLegal (cons t f) = Legal t × AllLegal f

-- the bytes list one legal tree, of no more nodes than a listing may have
pub record ListsLegal (s : List ℕ) : Type 0 where
  pub tree : Tree
  pub legal : Legal tree
  pub short : length (listing tree) ≤ max_listing
  pub lists : s ≡ listing tree

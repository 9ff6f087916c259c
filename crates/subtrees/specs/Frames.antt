-- The frames over a stored tree: each is a parent and the place of the tree among its children.
use Rattle.std.specs.Prelude.{List, suc, ℕ, drop, get_or, take}
use Rattle.subtrees.specs.Store.{child_numbers, trees_numbered}
use Rattle.trees.specs.Context.{Frame}
use Rattle.trees.specs.Tree.{Tree}

-- the tree at index i without its child k
abbrev pub frame_at : List Tree → List ℕ → List ℕ → List ℕ → ℕ → ℕ → Frame
frame_at ts l r c i k = record {
  label = get_or l i 0;
  before = trees_numbered ts (take k (child_numbers r c i));
  after = trees_numbered ts (drop (suc k) (child_numbers r c i));
}

-- Bounds of the indices of the parents of a stored tree.
use Rattle.std.specs.Prelude.{List, ◌≡◌, ◌<◌, ◌≤◌, ℕ, get_or}
use Rattle.subtrees.specs.Store.{child_at}

-- every parent of subtree j has an index from `from` on and below `to`
pub record ParentsWithin (m : ℕ) (r c : List ℕ) (j from to : ℕ) : Type 0 where
  pub known : to ≤ m
  pub above : (i k : ℕ) → i < m → k < get_or r i 0 → child_at c i k ≡ j → from ≤ i
  pub below : (i k : ℕ) → i < m → k < get_or r i 0 → child_at c i k ≡ j → i < to

-- Parents of subtrees, by arrays: r has the numbers of children, c the child numbers, and names the names of the
-- subtrees above j.
use Rattle.std.specs.Prelude.{Bool, ◌&&◌, cond, List, ◌≢◌, ◌≡◌, ◌*◌, ◌+◌, ◌-◌, ◌<◌, ◌≤◌, ℕ, eqb, ltb, get_or, length, set}
use Rattle.format.specs.Format.{max_arity, max_nodes}
use Rattle.lists.specs.Positions.{up_from}
use Rattle.lists.specs.Tests.{any}
use Rattle.subtrees.specs.Parents.{ParentsWithin}
use Rattle.subtrees.specs.Store.{child_at}

-- the parents of each of the m subtrees have indices from its entry of froms on and below its entry of tos
pub record SpansOf (m : ℕ) (r c froms tos : List ℕ) : Type 0 where
  pub each : (j : ℕ) → 1 ≤ j → j ≤ m → ParentsWithin m r c j (get_or froms (j - 1) 0) (get_or tos (j - 1) 0)

-- the subtree at index i is noted as the last parent of subtree j, and as the first if there was none
pub record ChildNoted (i j : ℕ) (froms tos froms' tos' : List ℕ) : Type 0 where
  pub last : tos' ≡ set tos (j - 1) (i + 1)
  pub first : froms' ≡ cond (eqb (get_or tos (j - 1) 0) 0) (set froms (j - 1) i) froms

-- the parents of the child numbers at the first p places are noted; they have indices below `most`
pub record ParentsNoted (r c : List ℕ) (most p : ℕ) (froms tos : List ℕ) : Type 0 where
  pub sizes : (length froms ≡ max_nodes) × (length tos ≡ max_nodes)
  pub low : (x : ℕ) → get_or froms x 0 ≤ get_or tos x 0 - 1
  pub known : (x : ℕ) → get_or tos x 0 ≤ most
  pub above : (i k : ℕ) → max_arity * i + k < p → k < get_or r i 0 → get_or froms (child_at c i k - 1) 0 ≤ i
  pub below : (i k : ℕ) → max_arity * i + k < p → k < get_or r i 0 → i < get_or tos (child_at c i k - 1) 0

-- child k of subtree i is subtree j
abbrev pub child_is : List ℕ → ℕ → ℕ → ℕ → Bool
child_is c i j k = eqb (child_at c (i - 1) k) j

-- subtree j is a child of subtree i
unfoldable pub is_child : List ℕ → List ℕ → ℕ → ℕ → Bool
is_child r c i j = any (child_is c i j) (up_from 0 (get_or r (i - 1) 0))

-- subtree i has its own name, no other has it, and j is its child
unfoldable pub anchors : ℕ → List ℕ → List ℕ → List ℕ → List ℕ → ℕ → ℕ → Bool
anchors n r c names shared j i =
    eqb (get_or names (i - 1) 0) (n + i) && (eqb (get_or shared (i - 1) 0) 0 && is_child r c i j)

-- the name of subtree i is some subtree's own name, and j is its child
unfoldable pub raises : ℕ → List ℕ → List ℕ → List ℕ → ℕ → ℕ → Bool
raises n r c names j i = ltb n (get_or names (i - 1) 0) && is_child r c i j

-- every subtree whose own name another subtree above j has is marked
pub record Shared (n m j : ℕ) (names shared : List ℕ) : Type 0 where
  pub each : (x i : ℕ) → j < x → x ≤ m → 1 ≤ i → get_or names (x - 1) 0 ≡ n + i → x ≢ i → get_or shared (i - 1) 0 ≢ 0

-- m' keeps the marks of m, and subtree i is marked if subtree j has the own name of i and is not i
pub record Marked (n j name : ℕ) (m m' : List ℕ) : Type 0 where
  pub kept : (i : ℕ) → get_or m i 0 ≢ 0 → get_or m' i 0 ≢ 0
  pub new : (i : ℕ) → 1 ≤ i → name ≡ n + i → j ≢ i → get_or m' (i - 1) 0 ≢ 0

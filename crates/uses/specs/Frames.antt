-- The frames of two subtrees as the code finds them. A frame is a node i of the arrays that hold the subtrees, with
-- child k left out. It runs to the slot of a transition with argument k left out.
use Rattle.std.specs.Prelude.{Bool, ◌&&◌, ◌||◌, not, List, ◌-◌, ◌<◌, ◌≤◌, ℕ, eqb, get_or, length}
use Rattle.format.specs.Format.{max_arity, max_nodes}
use Rattle.lists.specs.Positions.{up_from}
use Rattle.lists.specs.Tests.{any, every, filter}
use Rattle.subtrees.specs.Store.{child_at}
use Rattle.table.specs.Layout.{arg_of, arity_of, label_of}

-- there are m nodes, each with at most eight children, which are numbers of nodes
pub record Nodes (m : ℕ) (r c : List ℕ) : Type 0 where
  pub few : m ≤ max_nodes
  pub narrow : (i : ℕ) → i < m → get_or r i 0 ≤ max_arity
  pub child-some : (i k : ℕ) → i < m → k < get_or r i 0 → 1 ≤ child_at c i k
  pub child-known : (i k : ℕ) → i < m → k < get_or r i 0 → child_at c i k ≤ m

-- arrays of the numbers of children and the child numbers of m subtrees; children come before parents
pub record Shaped (m : ℕ) (r c : List ℕ) : Type 0 where
  pub few : m ≤ max_nodes
  pub narrow : (i : ℕ) → i < m → get_or r i 0 ≤ max_arity
  pub child-some : (i k : ℕ) → i < m → k < get_or r i 0 → 1 ≤ child_at c i k
  pub child-before : (i k : ℕ) → i < m → k < get_or r i 0 → child_at c i k ≤ i

-- child x of node i runs to argument x of the transition that starts at a byte, or is left out
abbrev pub same_sibling : List ℕ → ℕ → ℕ → List ℕ → List ℕ → ℕ → ℕ → Bool
same_sibling s at k c q i x = eqb x k || eqb (get_or q (child_at c i x - 1) 0) (arg_of s at x)

-- node i with child k left out runs to the transition's slot
unfoldable pub in_slot : List ℕ → ℕ → ℕ → List ℕ → List ℕ → List ℕ → List ℕ → ℕ → Bool
in_slot s at k l r c q i =
    eqb (get_or l i 0) (label_of s at) && (eqb (get_or r i 0) (arity_of s at) &&
    every (same_sibling s at k c q i) (up_from 0 (arity_of s at)))

-- nodes h and i have the same child x, or it is left out
abbrev pub same_child : List ℕ → ℕ → ℕ → ℕ → ℕ → Bool
same_child c k i h x = eqb x k || eqb (child_at c h x) (child_at c i x)

-- node h has subtree j as child k and is otherwise the same as node i
unfoldable pub twin : List ℕ → List ℕ → List ℕ → ℕ → ℕ → ℕ → ℕ → Bool
twin l r c j k i h =
    eqb (child_at c h k) j && (eqb (get_or l h 0) (get_or l i 0) && (eqb (get_or r h 0) (get_or r i 0) &&
    every (same_child c k i h) (up_from 0 (get_or r i 0))))

-- the frame at place k of node i counts: it is one of subtree j, or one of subtree v and not of j
unfoldable pub frame_of : List ℕ → List ℕ → List ℕ → ℕ → ℕ → ℕ → ℕ → ℕ → Bool
frame_of l r c m j v k i =
    eqb (child_at c i k) j || (eqb (child_at c i k) v && not (any (twin l r c j k i) (up_from 0 m)))

-- the frame counts and runs to the transition's slot
abbrev pub framed : List ℕ → ℕ → ℕ → List ℕ → List ℕ → List ℕ → List ℕ → ℕ → ℕ → ℕ → ℕ → Bool
framed s at k l r c q m j v i = frame_of l r c m j v k i && in_slot s at k l r c q i

-- how many nodes have such a frame at place k; a frame of both j and v counts once
abbrev pub frame_count : List ℕ → ℕ → ℕ → List ℕ → List ℕ → List ℕ → List ℕ → ℕ → ℕ → ℕ → ℕ
frame_count s at k l r c q m j v = length (filter (framed s at k l r c q m j v) (up_from 0 m))

-- Subtrees as nodes over own names, as two numbers each: the child count with the label, and the children's own names
-- packed.
use Rattle.std.specs.Prelude.{Bool, ◌&&◌, cond, not, List, [], ◌∷◌, ◌≡◌, ◌*◌, ◌+◌, ◌-◌, ◌<◌, ◌≤◌, ℕ, eqb, get_or, length}
use Rattle.format.specs.Format.{byte_pairs, max_arity, max_label, max_nodes}
use Rattle.lists.specs.Positions.{up_from}
use Rattle.lists.specs.Tests.{every}
use Rattle.packed.specs.Packed.{digits}
use Rattle.subtrees.specs.Store.{child_at}

-- arrays of labels, numbers of children and child numbers hold m subtrees
pub record Nodes (m : ℕ) (l r c : List ℕ) : Type 0 where
  pub few : m ≤ max_nodes
  pub label : (j : ℕ) → j < m → get_or l j 0 ≤ max_label
  pub narrow : (j : ℕ) → j < m → get_or r j 0 ≤ max_arity
  pub some : (j k : ℕ) → j < m → k < get_or r j 0 → 1 ≤ child_at c j k
  pub known : (j k : ℕ) → j < m → k < max_arity → child_at c j k ≤ max_nodes

-- a child's own name, 0 for no child
abbrev pub digit_of : ℕ → ℕ → ℕ
digit_of n child = cond (eqb child 0) 0 (n + child)

-- the eight places for children of the subtree at index j as one number of own names
abbrev pub place_digit : ℕ → List ℕ → ℕ → ℕ → ℕ
place_digit n c j k = digit_of n (child_at c j k)

unfoldable pub key_of : ℕ → List ℕ → ℕ → ℕ
key_of n c j = digits (place_digit n c j) 0 max_arity 0

-- its child count and label as one number
abbrev pub meta_of : List ℕ → List ℕ → ℕ → ℕ
meta_of l r j = byte_pairs * get_or r j 0 + get_or l j 0

-- ks has f j for each subtree at an index j below m
pub record EachNode (f : ℕ → ℕ) (m : ℕ) (ks : List ℕ) : Type 0 where
  pub size : length ks ≡ max_nodes
  pub each : (j : ℕ) → j < m → get_or ks j 0 ≡ f j

-- the subtree at index j has these two numbers
abbrev pub is_node_at : List ℕ → List ℕ → ℕ → ℕ → ℕ → Bool
is_node_at metas keys a x j = eqb (get_or metas j 0) a && eqb (get_or keys j 0) x

-- the name of the first subtree of a list of indices that has them; o if there is none
abbrev pub named_by : List ℕ → List ℕ → List ℕ → ℕ → ℕ → ℕ → List ℕ → ℕ
named_by metas keys v a x o [] = o
named_by metas keys v a x o (j ∷ js) =
    let r = named_by metas keys v a x o js in cond (is_node_at metas keys a x j) (get_or v j 0) r

-- child k of the subtree at index j has its own name
abbrev pub child_own : ℕ → List ℕ → List ℕ → ℕ → ℕ → Bool
child_own n c v j k = eqb (get_or v (child_at c j k - 1) 0) (n + child_at c j k)

-- all its children have their own names
abbrev pub children_own_at : ℕ → List ℕ → List ℕ → List ℕ → ℕ → Bool
children_own_at n r c v j = every (child_own n c v j) (up_from 0 (get_or r j 0))

-- the subtree at index j runs to no state and has a name, and its children have their own names
abbrev pub new_at : ℕ → List ℕ → List ℕ → List ℕ → List ℕ → ℕ → Bool
new_at n r c s v j = eqb (get_or s j 0) 0 && not (eqb (get_or v j 0) 0) && children_own_at n r c v j

-- the subtree at index j runs to a state and has no name, and its children have their own names
abbrev pub gone_at : ℕ → List ℕ → List ℕ → List ℕ → List ℕ → ℕ → Bool
gone_at n r c s v j = not (eqb (get_or s j 0) 0) && eqb (get_or v j 0) 0 && children_own_at n r c v j

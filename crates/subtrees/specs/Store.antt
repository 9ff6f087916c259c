-- The distinct subtrees of a tree by number, from 1 and children first, and how arrays hold them: the label,
-- the number of children and the state of subtree j at index j - 1, its children's numbers from index
-- 8 (j - 1) on.
use Rattle.std.specs.Prelude.{List, [], ◌∷◌, map, reverse, ◌≡◌, ◌*◌, ◌+◌, ◌-◌, ◌<◌, ◌≤◌, ℕ, get_or, length}
use Rattle.automata.specs.Automaton.{Automaton, run}
use Rattle.automata.specs.Change.{subtrees}
use Rattle.format.specs.Format.{max_arity, max_label, max_nodes}
use Rattle.lists.specs.Positions.{up_from}
use Rattle.lists.specs.Tests.{Distinct, ◌∈◌}
use Rattle.running.specs.Running.{HoldsStates}
use Rattle.subtrees.specs.declared.Subtrees.{Subtrees}
use Rattle.trees.specs.Tree.{Forest, Tree, cons, nil, no_tree, node}

-- ---- trees by number

-- the distinct subtrees of a tree, children before parents
abbrev pub bottom_up : Tree → List Tree
bottom_up t = reverse (subtrees t)

-- the tree with a number, and those with numbers in order
abbrev pub tree_numbered : List Tree → ℕ → Tree
tree_numbered ts n = get_or ts (n - 1) no_tree

abbrev pub trees_numbered : List Tree → List ℕ → Forest
trees_numbered ts [] = nil
trees_numbered ts (n ∷ ns) = cons (tree_numbered ts n) (trees_numbered ts ns)

-- ---- arrays

-- the number of child k of the subtree at index j, and the numbers of all its children; r has how many children each
-- subtree has
abbrev pub child_at : List ℕ → ℕ → ℕ → ℕ
child_at c j k = get_or c (max_arity * j + k) 0

abbrev pub child_numbers : List ℕ → List ℕ → ℕ → List ℕ
child_numbers r c j = map (child_at c j) (up_from 0 (get_or r j 0))

-- the arrays l, r, c and q have the labels, numbers of children, child numbers and states of n trees. No tree is
-- there twice, and a child's number is below its parent's
pub record Stored (A : Automaton) (ts : List Tree) (n : ℕ) (l r c q : List ℕ) : Type 0 where
  pub size : length ts ≡ n
  pub distinct : Distinct ts
  pub tree : (j : ℕ) → j < n → get_or ts j no_tree ≡ node (get_or l j 0) (trees_numbered ts (child_numbers r c j))
  pub label : (j : ℕ) → j < n → get_or l j 0 ≤ max_label
  pub narrow : (j : ℕ) → j < n → get_or r j 0 ≤ max_arity
  pub child-some : (j k : ℕ) → j < n → k < get_or r j 0 → 1 ≤ child_at c j k
  pub child-before : (j k : ℕ) → j < n → k < get_or r j 0 → child_at c j k ≤ j
  pub child-beyond : (j k : ℕ) → j < n → get_or r j 0 ≤ k → k < max_arity → child_at c j k ≡ 0
  pub state : (j : ℕ) → j < n → get_or q j 0 ≡ run A (get_or ts j no_tree)

-- the bytes are the states of a tree's nodes in some automaton
abbrev pub Held : Tree → List ℕ → Type 0
Held t bs = (A : Automaton) × HoldsStates A t bs

-- the subtrees in arrays of their own
abbrev pub arrays : ℕ → List ℕ → List ℕ → List ℕ → List ℕ → Subtrees
arrays n l r c q = record { count = n; labels = l; arities = r; children = c; states = q }

-- s has the distinct subtrees ts of t, the last of which is t itself
pub record Lists (A : Automaton) (t : Tree) (ts : List Tree) (s : Subtrees) : Type 0 where
  pub few : s.count ≤ max_nodes
  pub stored : Stored A ts s.count s.labels s.arities s.children s.states
  pub subtree : (x : Tree) → x ∈ ts → x ∈ subtrees t
  pub every-subtree : (x : Tree) → x ∈ subtrees t → x ∈ ts
  pub some : 1 ≤ s.count
  pub last : tree_numbered ts s.count ≡ t

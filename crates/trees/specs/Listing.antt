-- The listing of a tree: label and child count of each node, node first, then its children's listings.
use Rattle.std.specs.Prelude.{Bool, ◌&&◌, false, not, true, List, [], ◌++◌, ◌∷◌, ◌%◌, ◌*◌, ◌+◌, ◌/◌, suc, zero, ℕ, eqb, leb, get_or, length, take}
use Rattle.format.specs.Format.{label_bytes, label_from, label_in, label_written, max_arity, max_listing, node_bytes}
use Rattle.lists.specs.Conditions.{Condition, condition, first_broken}
use Rattle.lists.specs.Positions.{up_from}
use Rattle.lists.specs.Tests.{every}
use Rattle.trees.specs.Tree.{Forest, Tree, cons, count, nil, no_tree, node}

-- the listing of a tree, and the listings of a list of trees
abbrev mutual
  pub listing : Tree → List ℕ
  listing (node a f) = label_written a ++ (count f ∷ listings f)

  pub listings : Forest → List ℕ
  listings nil = []
  listings (cons t f) = listing t ++ listings f

-- the bytes list exactly k trees: each node takes one of the trees still to come and adds its children
abbrev pub lists_trees : List ℕ → ℕ → Bool
lists_trees [] zero = true
lists_trees [] (suc k) = false
lists_trees (h ∷ []) zero = false
lists_trees (h ∷ []) (suc k) = false
lists_trees (h ∷ l ∷ []) zero = false
lists_trees (h ∷ l ∷ []) (suc k) = false
lists_trees (h ∷ l ∷ c ∷ s) zero = false
lists_trees (h ∷ l ∷ c ∷ s) (suc k) = lists_trees s (c + k)

-- the first k trees of a list of trees
abbrev pub first_trees : ℕ → Forest → Forest
first_trees zero f = nil
first_trees (suc k) nil = nil
first_trees (suc k) (cons t f) = cons t (first_trees k f)

-- the trees after the first k
abbrev pub later_trees : ℕ → Forest → Forest
later_trees zero f = f
later_trees (suc k) nil = nil
later_trees (suc k) (cons t f) = later_trees k f

-- the trees that the bytes list, read from the end: a node takes its children off the trees after it
abbrev pub read_trees : List ℕ → Forest
read_trees [] = nil
read_trees (h ∷ []) = nil
read_trees (h ∷ l ∷ []) = nil
read_trees (h ∷ l ∷ c ∷ s) = let f = read_trees s in cons (node (label_from h l) (first_trees c f)) (later_trees c f)

-- the bytes that the first k trees take, by their child counts
abbrev pub listed_bytes : List ℕ → ℕ → ℕ
listed_bytes [] k = 0
listed_bytes (h ∷ []) k = 0
listed_bytes (h ∷ l ∷ []) k = 0
listed_bytes (h ∷ l ∷ c ∷ s) zero = 0
listed_bytes (h ∷ l ∷ c ∷ s) (suc k) = node_bytes + listed_bytes s (c + k)

-- the listing of the first tree, without what follows it
unfoldable pub first_listing : List ℕ → List ℕ
first_listing s = take (listed_bytes s 1) s

-- the first tree of a list of trees; any tree if there is none
abbrev pub first_tree : Forest → Tree
first_tree nil = no_tree
first_tree (cons t f) = t

-- the tree that the bytes list, if they list one
abbrev pub read_tree : List ℕ → Tree
read_tree s = first_tree (read_trees s)

-- the label of node i
abbrev pub label_at : List ℕ → ℕ → ℕ
label_at s i = label_in s (node_bytes * i)

-- the child count of node i
abbrev pub children_at : List ℕ → ℕ → ℕ
children_at s i = get_or s (node_bytes * i + label_bytes) 0

-- the number of nodes
abbrev pub nodes_in : List ℕ → ℕ
nodes_in s = length s / node_bytes

-- node i has a label
abbrev pub labelled : List ℕ → ℕ → Bool
labelled s i = not (eqb (label_at s i) 0)

-- node i has no more children than a node may have
abbrev pub narrow : List ℕ → ℕ → Bool
narrow s i = leb (children_at s i) max_arity

-- condition 1: a length that whole nodes have, no more than a listing may have
unfoldable pub whole_nodes : List ℕ → Bool
whole_nodes s = leb node_bytes (length s) && leb (length s) max_listing && eqb (length s % node_bytes) 0

-- condition 2, for every node, also after the first tree
unfoldable pub all_labelled : List ℕ → Bool
all_labelled s = every (labelled s) (up_from 0 (nodes_in s))

-- condition 3, for every node, also after the first tree
unfoldable pub all_narrow : List ℕ → Bool
all_narrow s = every (narrow s) (up_from 0 (nodes_in s))

-- condition 4: the counts make exactly one tree
unfoldable pub one_tree : List ℕ → Bool
one_tree s = lists_trees s 1

-- conditions 1 to 4, in 01's order
unfoldable pub listing_conditions : List ℕ → List Condition
listing_conditions s =
    condition 1 (whole_nodes s) ∷ condition 2 (all_labelled s) ∷ condition 3 (all_narrow s) ∷ condition 4 (one_tree s) ∷ []

-- refusals 1 to 4: the number of the first condition broken, or 0
unfoldable pub listing_refusal : List ℕ → ℕ
listing_refusal s = first_broken (listing_conditions s)

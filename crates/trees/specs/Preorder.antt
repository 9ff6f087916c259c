-- The subtrees of a tree in the order of its listing, one for each node.
use Rattle.std.specs.Prelude.{List, [], ◌++◌, ◌∷◌, ◌-◌, ℕ, get_or}
use Rattle.trees.specs.Tree.{Forest, Tree, cons, nil, no_tree, node}

-- the subtree at each node, node first, then those of its children in order
abbrev mutual
  pub preorder : Tree → List Tree
  preorder (node a f) = node a f ∷ preorders f

  pub preorders : Forest → List Tree
  preorders nil = []
  preorders (cons t f) = preorder t ++ preorders f

-- the subtree at place k of the listing, counted in nodes from 1 (02, order 1)
abbrev pub subtree_at : Tree → ℕ → Tree
subtree_at t k = get_or (preorder t) (k - 1) no_tree

-- A tree with one subtree cut out (01: a tree with one part cut out).
use Rattle.std.specs.Prelude.{List, [], ◌∷◌, ℕ}
use Rattle.trees.specs.Tree.{Forest, Tree, ◌⧺◌, cons, node}

-- a node with one child missing
pub record Frame : Type 0 where
  pub label : ℕ
  pub before : Forest
  pub after : Forest

-- the frames from the gap outwards
abbrev pub Context : Type 0
Context = List Frame

-- the node with the missing child put in
abbrev pub fill : Frame → Tree → Tree
fill f t = node f.label (◌⧺◌ f.before (cons t f.after))

-- the tree with the gap filled
abbrev pub plug : Context → Tree → Tree
plug [] t = t
plug (f ∷ c) t = plug c (fill f t)

-- Trees of module codes: a label and child trees in order (01: a tree). Limits are facts about listings
-- and tables: a tree has any label, any number of children and any size.
use Rattle.std.specs.Prelude.{Bool, ◌&&◌, false, true, max, suc, ℕ, eqb}

-- a label with child trees, and a list of trees
mutual
  pub data Tree : Type 0 where
    node : ℕ → Forest → Tree

  pub data Forest : Type 0 where
    nil : Forest
    cons : Tree → Forest → Forest

infixl 65 ◌⧺◌
-- one list of trees after another
abbrev pub ◌⧺◌ : Forest → Forest → Forest
nil ⧺ g = g
(cons t f) ⧺ g = cons t (f ⧺ g)

-- the number of trees (01: the child count)
abbrev pub count : Forest → ℕ
count nil = 0
count (cons t f) = suc (count f)

-- the tree for a place that has none
abbrev pub no_tree : Tree
no_tree = node 0 nil

-- every tree of a list has the property
abbrev pub AllTrees : (Tree → Type 0) → Forest → Type 0
AllTrees P nil = Unit {0}
AllTrees P (cons t f) = P t × AllTrees P f

-- two trees are equal
abbrev mutual
  pub eq_tree : Tree → Tree → Bool
  eq_tree (node a f) (node b g) = eqb a b && eq_forest f g

  pub eq_forest : Forest → Forest → Bool
  eq_forest nil nil = true
  eq_forest nil (cons u g) = false
  eq_forest (cons t f) nil = false
  eq_forest (cons t f) (cons u g) = eq_tree t u && eq_forest f g

-- the nodes on the longest way down
abbrev mutual
  pub depth : Tree → ℕ
  depth (node a f) = suc (depths f)

  pub depths : Forest → ℕ
  depths nil = 0
  depths (cons t f) = max (depth t) (depths f)

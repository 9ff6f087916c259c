-- Samples of order 7, as rows of one table with one test: which labels are boxes, how listings are compared, and trees with
-- their ordered form.
use Rattle.std.specs.Prelude.{Bool, ◌&&◌, false, not, true, List, [], ◌∷◌, ℕ}
use Rattle.std.specs.Bool.{beq}
use Rattle.boxes.specs.Boxes.{is_box, listing_not_after, ordered}
use Rattle.lists.specs.Tests.{every}
use Rattle.trees.specs.Tree.{Forest, Tree, cons, eq_tree, nil, node}

-- what a row says
pub data BoxSample : Type 0 where
  -- the label is that of a box, or it is not
  labels : ℕ → Bool → BoxSample
  -- the first tree's listing comes before the second's
  rises : Tree → Tree → BoxSample
  -- the first tree in order is the second
  orders : Tree → Tree → BoxSample
  -- every tree of a list in order is this tree
  all_order : List Tree → Tree → BoxSample
  -- the two trees in order differ
  differ : Tree → Tree → BoxSample

-- whether a row holds
abbrev pub box_holds : BoxSample → Bool
box_holds (labels a b) = beq (is_box a) b
box_holds (rises t u) = listing_not_after t u && not (listing_not_after u t)
box_holds (orders t u) = eq_tree (ordered t) u
box_holds (all_order ts u) = every (λ t. eq_tree (ordered t) u) ts
box_holds (differ t u) = not (eq_tree (ordered t) (ordered u))

-- ---- trees

-- a node without children
abbrev pub cell : ℕ → Tree
cell a = node a nil

-- two and three children
abbrev pub two : Tree → Tree → Forest
two t u = cons t (cons u nil)

abbrev pub three : Tree → Tree → Tree → Forest
three t u v = cons t (two u v)

-- a terminal, label 7, over a box with three cells
abbrev pub terminal : Tree → Tree → Tree → Tree
terminal t u v = node 7 (cons (node 61440 (three t u v)) nil)

-- ---- the table

-- the rows
abbrev pub box_samples : List BoxSample
box_samples =
    -- the borders of the boxes
    labels 0 false ∷ labels 61439 false ∷ labels 61440 true ∷ labels 65535 true ∷ labels 65536 false ∷
    orders (node 61439 (two (cell 2) (cell 1))) (node 61439 (two (cell 2) (cell 1))) ∷
    orders (node 61440 (two (cell 2) (cell 1))) (node 61440 (two (cell 1) (cell 2))) ∷
    orders (node 65535 (two (cell 2) (cell 1))) (node 65535 (two (cell 1) (cell 2))) ∷
    -- the high byte of a label decides before the low one: 1 is 0 1 and 256 is 1 0
    rises (cell 1) (cell 256) ∷ rises (cell 255) (cell 256) ∷ rises (cell 511) (cell 512) ∷
    -- the label decides before the child count, and so a longer listing may come first
    rises (node 1 (cons (cell 1) nil)) (cell 2) ∷
    orders (node 61440 (two (cell 2) (node 1 (cons (cell 1) nil)))) (node 61440
    (two (node 1 (cons (cell 1) nil)) (cell 2))) ∷
    -- the child count decides before the children
    rises (cell 1) (node 1 (cons (cell 1) nil)) ∷
    rises (node 1 (cons (cell 9) nil)) (node 1 (two (cell 1) (cell 1))) ∷
    -- the first child that differs decides
    rises (node 1 (two (cell 1) (cell 9))) (node 1 (two (cell 2) (cell 1))) ∷
    -- all orders of the cells of a box give one tree
    all_order (terminal (cell 1) (cell 2) (cell 3) ∷ terminal (cell 1) (cell 3) (cell 2) ∷
    terminal (cell 2) (cell 1) (cell 3) ∷ terminal (cell 2) (cell 3) (cell 1) ∷
    terminal (cell 3) (cell 1) (cell 2) ∷ terminal (cell 3) (cell 2) (cell 1) ∷ [])
    (terminal (cell 1) (cell 2) (cell 3)) ∷
    -- equal children stay as many as they are
    all_order (terminal (cell 2) (cell 1) (cell 2) ∷ terminal (cell 1) (cell 2) (cell 2) ∷
    terminal (cell 2) (cell 2) (cell 1) ∷ []) (terminal (cell 1) (cell 2) (cell 2)) ∷
    differ (terminal (cell 1) (cell 1) (cell 2)) (terminal (cell 1) (cell 2) (cell 2)) ∷
    -- inner boxes first: by the listings as they stand, the second box would come before the first
    orders (node 61440 (two (node 61441 (two (cell 2) (cell 1))) (node 61441 (two (cell 1) (cell 3))))) (node 61440
    (two (node 61441 (two (cell 1) (cell 2))) (node 61441 (two (cell 1) (cell 3))))) ∷
    -- a box under another label under a box
    orders (node 65535 (two (cell 4) (node 3 (two (node 61440 (two (cell 2) (cell 1))) (cell 1))))) (node 65535
    (two (node 3 (two (node 61440 (two (cell 1) (cell 2))) (cell 1))) (cell 4))) ∷
    -- under other labels the order stays, and swapped children make another tree
    differ (node 7 (two (cell 1) (cell 2))) (node 7 (two (cell 2) (cell 1))) ∷
    differ (node 61440 (cons (node 7 (two (cell 1) (cell 2))) nil)) (node 61440
    (cons (node 7 (two (cell 2) (cell 1))) nil)) ∷
    -- a child does not move from one box to another
    differ (node 7 (two (node 61440 (cons (cell 1) nil)) (node 61440 (cons (cell 2) nil)))) (node 7
    (two (node 61440 (cons (cell 2) nil)) (node 61440 (cons (cell 1) nil)))) ∷ []

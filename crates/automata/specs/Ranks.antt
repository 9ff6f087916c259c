-- Serial numbers of accepted trees (02, order 4): the order of trees in words, and the number of a tree and the tree
-- of a number, worked out from how many trees each state has.
use Rattle.std.specs.Prelude.{cond, List, [], ◌∷◌, ◌⊎◌, ◌≡◌, ◌%◌, ◌*◌, ◌+◌, ◌-◌, ◌/◌, ◌<◌, suc, zero, ℕ, eqb, ltb}
use Rattle.automata.specs.Automaton.{Automaton, Transition, accepting, matches, run, runs, states}
use Rattle.automata.specs.Totals.{product_over, sum_accepting, trees_of}
use Rattle.lists.specs.Positions.{first_place, up_from}
use Rattle.trees.specs.Tree.{Forest, Tree, cons, nil, no_tree, node}

-- ---- the order of trees

-- the position in the table, from 1, of the transition at the top of a tree; 0 if there is none
abbrev pub top_place : Automaton → ℕ → Forest → ℕ
top_place A a f = first_place (matches a (runs A f)) A.transitions

-- one tree comes before another: by state, then by the transition at the top, then by the children, the first that
-- differ deciding
abbrev mutual
  pub Before : Automaton → Tree → Tree → Type 0
  Before A (node a f) (node b g) =
      (run A (node a f) < run A (node b g)) ⊎
      ((run A (node a f) ≡ run A (node b g)) ×
      ((top_place A a f < top_place A b g) ⊎ ((top_place A a f ≡ top_place A b g) × ChildrenBefore A f g)))

  pub ChildrenBefore : Automaton → Forest → Forest → Type 0
  ChildrenBefore A nil g = ⊥
  ChildrenBefore A (cons t f) nil = ⊥
  ChildrenBefore A (cons t f) (cons u g) = Before A t u ⊎ ((t ≡ u) × ChildrenBefore A f g)

-- ---- the number of a tree

-- how many trees of state q stand at transitions before the first with this label and these arguments
abbrev pub sum_before : (ℕ → ℕ) → ℕ → ℕ → List ℕ → List Transition → ℕ
sum_before w q a qs [] = 0
sum_before w q a qs (τ ∷ τs) =
    let rest = sum_before w q a qs τs in
    cond (matches a qs τ) 0 (cond (eqb τ.out q) (product_over w τ.args) 0 + rest)

-- the number of a tree within its own state, from 0, and the number that children have together: the first counts most
abbrev mutual
  pub rank_in : Automaton → (ℕ → ℕ) → Tree → ℕ
  rank_in A w (node a f) = sum_before w (run A (node a f)) a (runs A f) A.transitions + ranks_in A w f

  pub ranks_in : Automaton → (ℕ → ℕ) → Forest → ℕ
  ranks_in A w nil = 0
  ranks_in A w (cons t f) = rank_in A w t * product_over w (runs A f) + ranks_in A w f

-- the number of an accepted tree, from 0 (02: the serial number): the trees of accepting states before its own come
-- first
unfoldable pub rank : Automaton → Tree → ℕ
rank A t = sum_accepting A (trees_of A) (up_from 1 (run A t - 1)) + rank_in A (trees_of A) t

-- ---- the tree of a number

-- a choice among numbered things: what is chosen, and the number that is left within it
pub record Chosen (X : Type 0) : Type 0 where
  pub what : X
  pub left : ℕ

abbrev pub no_transition : Transition
no_transition = record { label = 0; args = []; out = 0 }

-- the transition into state q at which its tree of number k stands
abbrev pub transition_of : (ℕ → ℕ) → ℕ → ℕ → List Transition → Chosen Transition
transition_of w q k [] = record { what = no_transition; left = k }
transition_of w q k (τ ∷ τs) =
    let here = cond (eqb τ.out q) (product_over w τ.args) 0 in
    let later = transition_of w q (k - here) τs in
    cond (ltb k here) (record { what = τ; left = k }) later

-- the children of number k over some states, from the tree of each state and number
abbrev pub children_of : (ℕ → ℕ → Tree) → (ℕ → ℕ) → List ℕ → ℕ → Forest
children_of T w [] k = nil
children_of T w (q ∷ qs) k = cons (T q (k / product_over w qs)) (children_of T w qs (k % product_over w qs))

-- the tree of state q that has number k within it, if it has at most d nodes on the longest way down
abbrev pub tree_of : Automaton → (ℕ → ℕ) → ℕ → ℕ → ℕ → Tree
tree_of A w zero q k = no_tree
tree_of A w (suc d) q k =
    let top = transition_of w q k A.transitions in
    node top.what.label (children_of (tree_of A w d) w top.what.args top.left)

-- the accepting state among some that has the tree of number k
abbrev pub state_of : Automaton → (ℕ → ℕ) → ℕ → List ℕ → Chosen ℕ
state_of A w k [] = record { what = 0; left = k }
state_of A w k (q ∷ qs) =
    let here = cond (accepting A q) (w q) 0 in
    let later = state_of A w (k - here) qs in
    cond (ltb k here) (record { what = q; left = k }) later

-- the accepted tree of a number below the total
unfoldable pub unrank : Automaton → ℕ → Tree
unrank A k =
    let top = state_of A (trees_of A) k (up_from 1 (states A)) in
    tree_of A (trees_of A) (states A) top.what top.left

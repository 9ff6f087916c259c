-- What the functions of this crate say: places chosen, children put on a stack, a tree listed.
use Rattle.std.specs.Prelude.{Bool, true, List, ◌≡◌, ◌+◌, ◌<◌, ◌≤◌, suc, zero, ℕ, get_or, length}
use Rattle.automata.specs.Automaton.{Automaton, Transition}
use Rattle.automata.specs.Ranks.{Chosen, children_of, state_of, transition_of}
use Rattle.automata.specs.Totals.{product_over, sum_into}
use Rattle.format.specs.Format.{max_nodes}
use Rattle.lists.specs.Positions.{up_from}
use Rattle.table.specs.Layout.{arg_of, arity_of, nth_transition, transition_at, transitions_in}
use Rattle.trees.specs.Tree.{Forest, Tree, cons, nil, node}
use Rattle.ranks.specs.declared.choosing.Choice.{Choice}
use Rattle.calls.specs.Calls.{fits_listing, padded_listing}

-- ---- places

-- the place is the accepting one of the states 1 to n that has the tree of number k
pub record StateChosen (A : Automaton) (w : ℕ → ℕ) (n k : ℕ) (r : Choice) : Type 0 where
  pub some : 1 ≤ r.place
  pub state : r.place ≤ n
  pub chosen : state_of A w k (up_from 1 n) ≡ record { what = r.place; left = r.left }
  pub below : r.left < w r.place

-- the place is that of the transition into state q at which the state's tree of number k stands
pub record TransitionChosen (w : ℕ → ℕ) (s : List ℕ) (c q k : ℕ) (r : Choice) : Type 0 where
  pub within : r.place < c
  pub chosen : transition_of w q k (transitions_in s c) ≡ record { what = nth_transition s r.place; left = r.left }
  pub below : r.left < product_over w (nth_transition s r.place).args

-- ---- trees to come

-- the trees of the m states and numbers that stand in two lists from an index on
abbrev pub trees_from : (ℕ → ℕ → Tree) → List ℕ → List ℕ → ℕ → ℕ → Forest
trees_from T qs ks i zero = nil
trees_from T qs ks i (suc m) = cons (T (get_or qs i 0) (get_or ks i 0)) (trees_from T qs ks (suc i) m)

-- qs' and ks' have the children of number k at a transition from an index on, and are qs and ks after them
pub record ChildrenPut (w : ℕ → ℕ) (s : List ℕ) (at k top : ℕ) (qs ks qs' ks' : List ℕ) : Type 0 where
  pub states-size : length qs' ≡ max_nodes
  pub numbers-size : length ks' ≡ max_nodes
  pub children : (T : ℕ → ℕ → Tree) →
      children_of T w (transition_at s at).args k ≡ trees_from T qs' ks' top (arity_of s at)
  pub states : (j : ℕ) → j < arity_of s at → get_or qs' (top + j) 0 ≡ arg_of s at j
  pub below : (j : ℕ) → j < arity_of s at → get_or ks' (top + j) 0 < w (get_or qs' (top + j) 0)
  pub later-states : (j : ℕ) → top + arity_of s at ≤ j → get_or qs' j 0 ≡ get_or qs j 0
  pub later-numbers : (j : ℕ) → top + arity_of s at ≤ j → get_or ks' j 0 ≡ get_or ks j 0

-- the number of each of the states 1 to n is the sum over its transitions
pub record Lawful (w : ℕ → ℕ) (s : List ℕ) (c n : ℕ) : Type 0 where
  pub sums : (q : ℕ) → 1 ≤ q → q ≤ n → w q ≡ sum_into w q (transitions_in s c)

-- the tree at a transition whose children have a number together
abbrev pub grown_at : (ℕ → ℕ → Tree) → (ℕ → ℕ) → Chosen Transition → Tree
grown_at T w top = node top.what.label (children_of T w top.what.args top.left)

-- the tree of each of the states 1 to n and each number is the one at the transition that has the number
pub record Grows (w : ℕ → ℕ) (s : List ℕ) (c n : ℕ) (T : ℕ → ℕ → Tree) : Type 0 where
  pub grown : (q k : ℕ) → 1 ≤ q → q ≤ n → k < w q → T q k ≡ grown_at T w (transition_of w q k (transitions_in s c))

-- r says whether the tree fits a listing, and if it does the bytes are its listing and zeros
pub record Listed (t : Tree) (r : Bool) (bytes : List ℕ) : Type 0 where
  pub fits : r ≡ fits_listing t
  pub written : r ≡ true → bytes ≡ padded_listing t

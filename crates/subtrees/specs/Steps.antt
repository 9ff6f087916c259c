-- What the steps of the pass leave: eight bytes filled, a node searched for and stored.
use Rattle.std.specs.Option.{MatchOption}
use Rattle.std.specs.Prelude.{Bool, ◌&&◌, cond, false, true, List, Option, [], ◌++◌, ◌∷◌, ◌≡◌, ◌*◌, ◌+◌, ◌<◌, ◌≤◌, ℕ, eqb, get_or, length}
use Rattle.automata.specs.Automaton.{Automaton}
use Rattle.format.specs.Format.{max_arity, max_nodes}
use Rattle.lists.specs.Closure.{elem}
use Rattle.lists.specs.Positions.{up_from}
use Rattle.lists.specs.Tests.{every}
use Rattle.subtrees.specs.Store.{Stored, child_at, tree_numbered}
use Rattle.trees.specs.Tree.{Tree, eq_tree}

-- the arrays have their lengths
pub record Sized (l r c q : List ℕ) : Type 0 where
  pub labels : length l ≡ max_nodes
  pub arities : length r ≡ max_nodes
  pub children : length c ≡ max_nodes * max_arity
  pub states : length q ≡ max_nodes

-- r has the first n values of f, and zeros after them
pub record Filled (f : ℕ → ℕ) (n : ℕ) (r : List ℕ) : Type 0 where
  pub size : length r ≡ max_arity
  pub filled : (k : ℕ) → k < n → get_or r k 0 ≡ f k
  pub beyond : (k : ℕ) → n ≤ k → get_or r k 0 ≡ 0

-- ns has c child numbers, each from 1 to n, and zeros after them
pub record Children (ns : List ℕ) (c n : ℕ) : Type 0 where
  pub narrow : c ≤ max_arity
  pub some : (k : ℕ) → k < c → 1 ≤ get_or ns k 0
  pub known : (k : ℕ) → k < c → get_or ns k 0 ≤ n
  pub beyond : (k : ℕ) → c ≤ k → get_or ns k 0 ≡ 0

-- child k of the subtree at index j is that of ns; the subtree at index j has this label and these n children
abbrev pub same_child : List ℕ → ℕ → List ℕ → ℕ → Bool
same_child c j ns k = eqb (child_at c j k) (get_or ns k 0)

abbrev pub same_node : List ℕ → List ℕ → List ℕ → ℕ → ℕ → List ℕ → ℕ → Bool
same_node l r c a n ns j =
    eqb (get_or l j 0) a && (eqb (get_or r j 0) n && every (same_child c j ns) (up_from 0 n))

-- i is the first number below n that passes
pub record FirstAt (p : ℕ → Bool) (n i : ℕ) : Type 0 where
  pub within : i < n
  pub before : (j : ℕ) → j < i → p j ≡ false
  pub there : p i ≡ true

-- o is that number, or none passes
abbrev pub First : (ℕ → Bool) → ℕ → Option ℕ → Type 0
First p n o = MatchOption o ((j : ℕ) → j < n → p j ≡ false) (FirstAt p n)

-- c' has ns as the eight child numbers of index j, and the entries before these are those of c
pub record ChildrenStored (c : List ℕ) (j : ℕ) (ns c' : List ℕ) : Type 0 where
  pub size : length c' ≡ length c
  pub stored : (k : ℕ) → k < max_arity → child_at c' j k ≡ get_or ns k 0
  pub before : (i : ℕ) → i < max_arity * j → get_or c' i 0 ≡ get_or c i 0

-- a tree appended to a list, if the list does not have it
abbrev pub add_last : List Tree → Tree → List Tree
add_last ts t = cond (elem eq_tree t ts) ts (ts ++ (t ∷ []))

-- the number i given to a tree, if n trees were found before and m are now
pub record NumberGiven (n m i : ℕ) : Type 0 where
  pub some : 1 ≤ i
  pub known : i ≤ m
  pub grows : n ≤ m
  pub one_more : m ≤ n + 1

-- the arrays hold t too, with number i
pub record Entered (A : Automaton) (ts : List Tree) (t : Tree) (n i : ℕ) (l r c q : List ℕ) : Type 0 where
  pub stored : Stored A (add_last ts t) n l r c q
  pub numbered : tree_numbered (add_last ts t) i ≡ t

-- The classes of subtrees in the set after a change, from the classes of states in a table.
use Rattle.std.specs.Prelude.{Bool, cond, false, List, ◌≡◌, ◌-◌, ◌≤◌, ℕ, eqb, get_or}
use Rattle.automata.specs.Automaton.{Automaton, Fits, IsState, accepting, accepts}
use Rattle.subtrees.specs.Store.{tree_numbered}
use Rattle.table.specs.Layout.{class_at}
use Rattle.trees.specs.Tree.{Tree, eq_tree}

-- S is the set of A's trees with t put in, or taken out
pub record Changed (inserting : Bool) (A : Automaton) (t : Tree) (S : Tree → Bool) : Type 0 where
  pub own : S t ≡ inserting
  pub others : (v : Tree) → eq_tree v t ≡ false → S v ≡ accepts A v

-- a table has the classes of an automaton's states
pub record ClassesIn (A : Automaton) (b : List ℕ) : Type 0 where
  pub fits : Fits A
  pub each : (q : ℕ) → IsState A q → accepting A q ≡ class_at b q

-- the tree itself is one of the m subtrees, with this number
pub record Rooted (t : Tree) (ts : List Tree) (m root : ℕ) : Type 0 where
  pub some : 1 ≤ root
  pub known : root ≤ m
  pub whole : tree_numbered ts root ≡ t

-- the class of a state in a table; 0, no state, is not accepting
abbrev pub class_in : List ℕ → ℕ → Bool
class_in b q = cond (eqb q 0) false (class_at b q)

-- the class of subtree j; q has the states of the subtrees, and the tree itself, number `root`, has class `inserting`
unfoldable pub subtree_class : List ℕ → List ℕ → ℕ → Bool → ℕ → Bool
subtree_class b q root inserting j = cond (eqb j root) inserting (class_in b (get_or q (j - 1) 0))

-- cl has the classes of the m subtrees
pub record Classed (S : Tree → Bool) (ts : List Tree) (m : ℕ) (cl : List ℕ) : Type 0 where
  pub each : (j : ℕ) → 1 ≤ j → j ≤ m → eqb (get_or cl (j - 1) 0) 1 ≡ S (tree_numbered ts j)

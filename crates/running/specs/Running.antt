-- Running a listing over transitions: what it needs, what it answers, and what it leaves in the rows of child
-- states and in the bytes of the nodes' states.
use Rattle.std.specs.Prelude.{cond, false, List, [], ◌++◌, ◌≡◌, ◌*◌, ◌+◌, ◌<◌, ◌≤◌, ℕ, eqb, get_or, length, take}
use Rattle.automata.specs.Automaton.{Automaton, runs}
use Rattle.automata.specs.NodeStates.{node_states}
use Rattle.fields.specs.Fields.{HoldsTransitions}
use Rattle.format.specs.Format.{max_arity, max_listing, max_nodes, node_bytes, transition_bytes}
use Rattle.lists.specs.Tests.{any}
use Rattle.running.specs.declared.Parent.{Parent}
use Rattle.running.specs.declared.Ran.{Ran}
use Rattle.running.specs.declared.Ran.TheVariants.{Nothing, State}
use Rattle.table.specs.Layout.{out_of, transitions_in}
use Rattle.trees.specs.Legal.{AllLegal}
use Rattle.trees.specs.Listing.{first_trees, listings, read_trees}
use Rattle.trees.specs.Tree.{Forest, Tree, count}

-- ---- what a run needs

-- a run has n transitions that can be read, and each has an output state
pub record Steps (s : List ℕ) (n : ℕ) : Type 0 where
  pub runs : HoldsTransitions s n
  pub out_some : (i : ℕ) → i < n → 1 ≤ out_of s (transition_bytes * i)

-- the bytes start with k legal trees, and from their first node on there is a row and a byte for each node
pub record Ahead (s : List ℕ) (k node : ℕ) : Type 0 where
  pub trees : Forest
  pub rest : List ℕ
  pub many : count trees ≡ k
  pub legal : AllLegal trees
  pub bytes : s ≡ listings trees ++ rest
  pub room : node_bytes * node + length s ≤ max_listing

-- a row for each node of a listing, with a place for each child
pub record Rows (rows : List (List ℕ)) : Type 0 where
  pub many : length rows ≡ max_nodes
  pub wide : (i : ℕ) → i < max_nodes → length (get_or rows i []) ≡ max_arity

-- the children of a node from place k on, the first of which is node j, can be run for it: it stands before them, and
-- its row has the states of the children before them
pub record Joins (parent : Parent) (k j : ℕ) (row : List ℕ) : Type 0 where
  pub before : parent.node < j
  pub place : k ≤ parent.arity
  pub narrow : parent.arity ≤ max_arity
  pub states : any (eqb 0) (take k row) ≡ false

-- ---- what it answers

-- the state that a run reached; 0 if it reached none
abbrev pub ran_state : Ran → ℕ
ran_state (State q) = q
ran_state Nothing = 0

-- the answer for a tree that runs to q; 0 is no state
unfoldable pub ran_to : ℕ → Ran
ran_to q = cond (eqb q 0) Nothing (State q)

-- transitions without classes: a run looks at no class
abbrev pub over : List ℕ → ℕ → Automaton
over s n = record { classes = []; transitions = transitions_in s n }

-- the states of the first k trees
abbrev pub child_states : List ℕ → ℕ → List ℕ → ℕ → List ℕ
child_states τs n s k = runs (over τs n) (first_trees k (read_trees s))

-- ---- what it leaves

-- the rows of the nodes before a node stay
pub record RowsKept (node : ℕ) (old new : List (List ℕ)) : Type 0 where
  pub rows : Rows new
  pub same : take node new ≡ take node old

-- the bytes are the states of a tree's nodes, each at the node's place in the listing, and zeros after them
pub record HoldsStates (A : Automaton) (t : Tree) (bs : List ℕ) : Type 0 where
  pub size : length bs ≡ max_nodes
  pub each : (i : ℕ) → get_or bs i 0 ≡ get_or (node_states A t) i 0

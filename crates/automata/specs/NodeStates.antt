-- The state of each node of a tree (02, order 3).
use Rattle.std.specs.Prelude.{List, map, ℕ}
use Rattle.automata.specs.Automaton.{Automaton, run}
use Rattle.trees.specs.Preorder.{preorder, preorders}
use Rattle.trees.specs.Tree.{Forest, Tree}

-- the states that the subtrees of a tree run to, in the order of its listing; 0 for none
unfoldable pub node_states : Automaton → Tree → List ℕ
node_states A t = map (run A) (preorder t)

-- the same of a list of trees
unfoldable pub forest_states : Automaton → Forest → List ℕ
forest_states A f = map (run A) (preorders f)

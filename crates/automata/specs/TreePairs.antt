-- The product of an automaton and a tree in 01's words (01: the pair automaton): the pairs that trees run to, and the
-- transitions between them. No numbers of pairs, and no order.
use Rattle.std.specs.Prelude.{cond, List, [], ◌∷◌, ◌≢◌, ◌≡◌, ℕ}
use Rattle.std.proofs.Math.Option.{Option, none, some}
use Rattle.automata.specs.Automaton.{Automaton, run}
use Rattle.automata.specs.Change.{subtrees}
use Rattle.lists.specs.Closure.{elem}
use Rattle.lists.specs.Tests.{◌∈◌}
use Rattle.trees.specs.Tree.{Forest, Tree, cons, eq_tree, nil, node}

-- a state or none (0), together with a tree or none
abbrev pub TreePair : Type 0
TreePair = ℕ × Option Tree

-- both none
abbrev pub no_pair : TreePair
no_pair = (0, none)

-- 01: a tree leads to its state in the book paired with itself if it is a part of the given tree, else with none
abbrev pub pair_of : Automaton → Tree → Tree → TreePair
pair_of A t u = (run A u, cond (elem eq_tree u (subtrees t)) (some u) none)

-- the pair of each tree of a list
abbrev pub pairs_of : Automaton → Tree → Forest → List TreePair
pairs_of A t nil = []
pairs_of A t (cons u f) = pair_of A t u ∷ pairs_of A t f

-- 01: a pair is not both none, and some tree leads to it
abbrev pub IsPair : Automaton → Tree → TreePair → Type 0
IsPair A t k = (k ≢ no_pair) × ((u : Tree) × (pair_of A t u ≡ k))

-- a label over argument pairs, with an output pair
pub record PairTransition : Type 0 where
  pub label : ℕ
  pub args : List TreePair
  pub out : TreePair

-- a transition of the product (01: a line of the pair automaton): its arguments and its output are pairs, and with
-- trees that run to the arguments, the tree made of its label and these trees runs to the output
pub record InProduct (A : Automaton) (t : Tree) (τ : PairTransition) : Type 0 where
  pub args-pairs : (k : TreePair) → k ∈ τ.args → IsPair A t k
  pub out-pair : IsPair A t τ.out
  pub trees : Forest
  pub trees-run : pairs_of A t trees ≡ τ.args
  pub made-runs : pair_of A t (node τ.label trees) ≡ τ.out

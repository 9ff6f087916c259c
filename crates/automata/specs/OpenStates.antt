-- The transitions of a product of an automaton and a tree, counted without making them: a state stands in one pair for
-- each subtree that runs to it, and in one more if some other tree does.
use Rattle.std.specs.Prelude.{Bool, ◌||◌, not, List, [], ◌∷◌, ◌+◌, ℕ, eqb, length}
use Rattle.automata.specs.Automaton.{Automaton, Transition, run}
use Rattle.automata.specs.Change.{subtrees}
use Rattle.automata.specs.ProductView.{pairs_with}
use Rattle.automata.specs.Totals.{product_over, sum_into}
use Rattle.lists.specs.Closure.{elem}
use Rattle.lists.specs.Positions.{eq_pair}
use Rattle.lists.specs.Tests.{bit, filter}
use Rattle.trees.specs.Tree.{Tree}

-- the distinct subtrees of a tree that run to a state
unfoldable pub subtrees_at : Automaton → Tree → ℕ → List Tree
subtrees_at A t q = filter (λ u. eqb (run A u) q) (subtrees t)

-- how many they are
abbrev pub at_state : Automaton → Tree → ℕ → ℕ
at_state A t q = length (subtrees_at A t q)

-- a state is open if some tree that is no subtree runs to it: the state with none is a pair of the product
unfoldable pub open_state : Automaton → Tree → ℕ → Bool
open_state A t q = elem eq_pair (q, 0) (pairs_with A t)

-- no subtree runs to the state, or nodes over subtrees that run to it are more than its subtrees: it is open
unfoldable pub opens_at : Automaton → Tree → ℕ → Bool
opens_at A t q = eqb (at_state A t q) 0 || not (eqb (sum_into (at_state A t) q A.transitions) (at_state A t q))

-- the number of pairs of a state
unfoldable pub pairs_of : Automaton → Tree → ℕ → ℕ
pairs_of A t q = at_state A t q + bit (open_state A t q)

-- the sum over transitions of the product over their arguments
abbrev pub sum_over : (ℕ → ℕ) → List Transition → ℕ
sum_over w [] = 0
sum_over w (τ ∷ τs) = product_over w τ.args + sum_over w τs

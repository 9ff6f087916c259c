-- How many trees a state has, and how many an automaton accepts (02, order 2). The numbers are worked out by
-- depth: a state that has finitely many trees has none that is deeper than there are states.
use Rattle.std.specs.Prelude.{cond, List, [], ◌∷◌, map, ◌≡◌, ◌*◌, ◌+◌, ◌≤◌, suc, zero, ℕ, eqb, get_or, replicate}
use Rattle.automata.specs.Automaton.{Automaton, Transition, accepting, run, states}
use Rattle.lists.specs.Positions.{up_from}
use Rattle.trees.specs.Tree.{Tree, depth}

-- the product of the numbers of some states
abbrev pub product_over : (ℕ → ℕ) → List ℕ → ℕ
product_over w [] = 1
product_over w (q ∷ qs) = w q * product_over w qs

-- the sum over the transitions into q of the product over their arguments
abbrev pub sum_into : (ℕ → ℕ) → ℕ → List Transition → ℕ
sum_into w q [] = 0
sum_into w q (τ ∷ τs) = cond (eqb τ.out q) (product_over w τ.args) 0 + sum_into w q τs

-- the number of state q, from a list of the numbers of states 1 to n
abbrev pub number_at : List ℕ → ℕ → ℕ
number_at ns zero = 0
number_at ns (suc q) = get_or ns q 0

-- for each state the number of its trees that have at most d nodes on the longest way down
unfoldable pub trees_within : Automaton → ℕ → List ℕ
trees_within A zero = replicate (states A) 0
trees_within A (suc d) =
    let ns = trees_within A d in map (λ q. sum_into (number_at ns) q A.transitions) (up_from 1 (states A))

-- a tree of state q that has at most d nodes on the longest way down
abbrev pub Within : Automaton → ℕ → ℕ → Tree → Type 0
Within A d q t = (run A t ≡ q) × (depth t ≤ d)

-- state q has finitely many trees: some depth that none of them exceeds, as there are finitely many transitions
abbrev pub FinitelyMany : Automaton → ℕ → Type 0
FinitelyMany A q = (d : ℕ) × ((t : Tree) → run A t ≡ q → depth t ≤ d)

-- the number of trees of state q, if it has finitely many
unfoldable pub trees_of : Automaton → ℕ → ℕ
trees_of A q = number_at (trees_within A (states A)) q

-- the sum of the numbers of those states that are accepting
abbrev pub sum_accepting : Automaton → (ℕ → ℕ) → List ℕ → ℕ
sum_accepting A w [] = 0
sum_accepting A w (q ∷ qs) = cond (accepting A q) (w q) 0 + sum_accepting A w qs

-- the number of accepted trees, if they are finitely many (02: the total)
unfoldable pub total : Automaton → ℕ
total A = sum_accepting A (trees_of A) (up_from 1 (states A))

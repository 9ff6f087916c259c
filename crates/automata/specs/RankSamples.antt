-- Samples of order 4, as rows of two tables: the trees of all numbers, and pairs of trees in their order.
use Rattle.std.specs.Prelude.{Bool, ◌&&◌, false, true, List, [], ◌∷◌, ℕ, eqb, length}
use Rattle.automata.specs.Automaton.{Automaton}
use Rattle.automata.specs.Example.{fork, leaf, transition}
use Rattle.automata.specs.Ranks.{Before, rank, unrank}
use Rattle.automata.specs.Totals.{total}
use Rattle.lists.specs.Tests.{every}
use Rattle.trees.specs.Tree.{Tree, cons, eq_tree, nil, node}

-- (1) and (2) run to 1, which is of class 0; (3) and label 5 over 1 and 1 to 2; label 4 over 1 or over 2 to 3
abbrev pub rank_automaton : Automaton
rank_automaton = record {
  classes = false ∷ true ∷ true ∷ [];
  transitions =
      transition 1 [] 1 ∷ transition 2 [] 1 ∷ transition 3 [] 2 ∷ transition 4 (1 ∷ []) 3 ∷
      transition 4 (2 ∷ []) 3 ∷ transition 5 (1 ∷ 1 ∷ []) 2 ∷ [];
}

-- the tree has the number
pub record RankSample : Type 0 where
  pub number : ℕ
  pub tree : Tree

-- a row of the table
abbrev pub numbering : ℕ → Tree → RankSample
numbering n t = record { number = n; tree = t }

-- the tree (4 t)
abbrev pub over : Tree → Tree
over t = node 4 (cons t nil)

-- state 2 before state 3, in each the transitions in their order, at each the first child counting most
abbrev pub rank_samples : List RankSample
rank_samples =
    numbering 0 (leaf 3) ∷ numbering 1 (fork 5 1 1) ∷ numbering 2 (fork 5 1 2) ∷ numbering 3 (fork 5 2 1) ∷
    numbering 4 (fork 5 2 2) ∷ numbering 5 (over (leaf 1)) ∷ numbering 6 (over (leaf 2)) ∷
    numbering 7 (over (leaf 3)) ∷ numbering 8 (over (fork 5 1 1)) ∷ numbering 9 (over (fork 5 1 2)) ∷
    numbering 10 (over (fork 5 2 1)) ∷ numbering 11 (over (fork 5 2 2)) ∷ []

-- what a row says
abbrev pub rank_holds : RankSample → Bool
rank_holds s =
    eqb (rank rank_automaton s.tree) s.number && eq_tree (unrank rank_automaton s.number) s.tree

-- every row holds, and no number below the total is left out
abbrev pub ranks_hold : Bool
ranks_hold = eqb (total rank_automaton) (length rank_samples) && every rank_holds rank_samples

-- the first tree comes before the second
pub record OrderSample : Type 0 where
  pub first : Tree
  pub second : Tree

-- a row of the table
abbrev pub ordered : Tree → Tree → OrderSample
ordered t u = record { first = t; second = u }

-- by state, by transition, by the first child, by the second, and by a child's transition
abbrev pub order_samples : List OrderSample
order_samples =
    ordered (fork 5 2 2) (over (leaf 1)) ∷ ordered (leaf 3) (fork 5 1 1) ∷ ordered (fork 5 1 2) (fork 5 2 1) ∷
    ordered (fork 5 1 1) (fork 5 1 2) ∷ ordered (over (leaf 3)) (over (fork 5 1 1)) ∷ []

-- every row holds
abbrev pub OrderHolds : List OrderSample → Type 0
OrderHolds [] = Unit {0}
OrderHolds (s ∷ ss) = Before rank_automaton s.first s.second × OrderHolds ss

-- What the arrays hold: an automaton, the distinct subtrees of a tree, their names, and the open states.
use Rattle.std.specs.Prelude.{List, ◌≡◌, ◌+◌, ◌<◌, ◌≤◌, ℕ, get_or, length}
use Rattle.automata.specs.Automaton.{Automaton, states}
use Rattle.automata.specs.OpenStates.{open_state}
use Rattle.automata.specs.Quotient.{has_own, kept_names, quotient_list}
use Rattle.format.specs.Format.{max_nodes}
use Rattle.lists.specs.Positions.{up_from}
use Rattle.lists.specs.Tests.{filter}
use Rattle.pairs.specs.Counts.{Open, Setting}
use Rattle.subtrees.specs.Store.{Stored, bottom_up}
use Rattle.trees.specs.Tree.{Tree, no_tree}
use Rattle.quotient.specs.Kept.{Chained}

-- A has n states, and the bytes s hold its transitions; l, r, c and q have the labels, child counts, child numbers
-- and states of the m subtrees of t, v their names by ν; o marks the open states
pub record Changed (A : Automaton) (t : Tree) (ν : Tree → ℕ) (s : List ℕ) (count n m : ℕ) (o l r c q v : List ℕ) :
    Type 0 where
  pub setting : Setting A s count
  pub size : n ≡ states A
  pub few : m ≤ max_nodes
  pub stored : Stored A (bottom_up t) m l r c q
  pub opens : Open A t o
  pub named : (j : ℕ) → j < m → get_or v j 0 ≡ ν (get_or (bottom_up t) j no_tree)

-- the same, with the kept names as chains
pub record Chosen (A : Automaton) (t : Tree) (ν : Tree → ℕ) (s : List ℕ) (count n m : ℕ) (o l r c q v : List ℕ)
    (firsts nexts : List ℕ) : Type 0 where
  pub changed : Changed A t ν s count n m o l r c q v
  pub chained : Chained n m o q v 0 firsts nexts

-- there are at most `limit` transitions between names
abbrev pub FewChosen : List ℕ → ℕ → ℕ → ℕ → List ℕ → List ℕ → List ℕ → List ℕ → List ℕ → List ℕ → List ℕ → ℕ → Type 0
FewChosen s count n m l r c q v firsts nexts limit =
    (A : Automaton) × (t : Tree) × (ν : (Tree → ℕ)) × (o : List ℕ) ×
    Chosen A t ν s count n m o l r c q v firsts nexts ×
    (length (quotient_list A t (bottom_up t) ν) ≤ limit)

-- the number of names that are kept
unfoldable pub kept_count : Automaton → Tree → List Tree → (Tree → ℕ) → ℕ
kept_count A t ts ν = length (filter (open_state A t) (up_from 1 (states A))) + length (filter (has_own A ts ν) ts)

-- how many names of a state are kept
abbrev pub kept_lengths : Automaton → Tree → (Tree → ℕ) → ℕ → ℕ
kept_lengths A t ν q = length (kept_names A t (bottom_up t) ν q)

-- Samples of order 2, as rows of one table with one test: automata and how many trees they accept.
use Rattle.std.specs.Prelude.{Bool, false, true, List, [], ◌∷◌, ◌^◌, ℕ, eqb, replicate}
use Rattle.automata.specs.Automaton.{Automaton, empty_automaton}
use Rattle.automata.specs.Example.{example, transition}
use Rattle.automata.specs.Others.{p6_automaton}
use Rattle.automata.specs.Totals.{total}

-- the automaton accepts so many trees
pub record TotalSample : Type 0 where
  pub automaton : Automaton
  pub number : ℕ

-- a row of the table
abbrev pub counted : Automaton → ℕ → TotalSample
counted A n = record { automaton = A; number = n }

-- label 3 over eight children, each (1) or (2)
abbrev pub eight_children : Automaton
eight_children = record {
  classes = false ∷ true ∷ [];
  transitions = transition 1 [] 1 ∷ transition 2 [] 1 ∷ transition 3 (replicate 8 1) 2 ∷ [];
}

-- (1) and (2) run to 1, and label 1 over the same state twice runs to the next; 7 is accepting
abbrev pub squares : Automaton
squares = record {
  classes = false ∷ false ∷ false ∷ false ∷ false ∷ false ∷ true ∷ [];
  transitions =
      transition 1 [] 1 ∷ transition 2 [] 1 ∷ transition 1 (1 ∷ 1 ∷ []) 2 ∷ transition 1 (2 ∷ 2 ∷ []) 3 ∷
      transition 1 (3 ∷ 3 ∷ []) 4 ∷ transition 1 (4 ∷ 4 ∷ []) 5 ∷ transition 1 (5 ∷ 5 ∷ []) 6 ∷
      transition 1 (6 ∷ 6 ∷ []) 7 ∷ [];
}

-- the empty set, P6, P7, 01's set of 256 trees, and the least number that is over
abbrev pub total_samples : List TotalSample
total_samples =
    counted empty_automaton 0 ∷ counted p6_automaton 4 ∷ counted example 5 ∷ counted eight_children 256 ∷
    counted squares (2 ^ 64) ∷ []

-- what a row says
abbrev pub total_holds : TotalSample → Bool
total_holds s = eqb (total s.automaton) s.number

-- Samples of the size of a changed automaton, counted from names, as rows of a table.
use Rattle.std.specs.Prelude.{Bool, ◌&&◌, List, [], ◌∷◌, ◌+◌, ℕ, eqb, length}
use Rattle.automata.specs.AlikeSamples.{SampleChange, given_names, paper, single, twice, undone, whole}
use Rattle.automata.specs.Change.{subtrees}
use Rattle.automata.specs.NamedChange.{changed_automaton, names_in_use}
use Rattle.automata.specs.OpenStates.{sum_over}
use Rattle.automata.specs.Quotient.{gone_count, kept_names, new_count, quotient_list}
use Rattle.lists.specs.Tests.{every}

-- after a change the automaton has so many states and transitions
pub record SizeSample : Type 0 where
  pub change : SampleChange
  pub states : ℕ
  pub transitions : ℕ

-- a row of the table
abbrev pub sized : SampleChange → ℕ → ℕ → SizeSample
sized c n m = record { change = c; states = n; transitions = m }

-- the five trees of the example; the four before; three of four forks; three of four forks over forks; no tree
abbrev pub size_samples : List SizeSample
size_samples = sized paper 3 7 ∷ sized undone 2 3 ∷ sized twice 3 5 ∷ sized whole 6 8 ∷ sized single 0 0 ∷ []

-- what a row says: the changed automaton has this size, the names in use are as many as the states, and the
-- transitions between names, listed and counted without making them, are as many as the transitions
abbrev pub size_holds : SizeSample → Bool
size_holds s =
    let A = s.change.automaton in
    let t = s.change.tree in
    let ts = subtrees t in
    let ν = given_names s.change in
    let C = changed_automaton s.change.put t A in
    eqb (length C.classes) s.states && eqb (length C.transitions) s.transitions &&
    eqb (length (names_in_use A t ts ν)) s.states && eqb (length (quotient_list A t ts ν)) s.transitions &&
    eqb (sum_over (λ q. length (kept_names A t ts ν q)) A.transitions + new_count A ts ν)
    (s.transitions + gone_count A ts ν)

-- every row holds
abbrev pub sizes_all : Bool
sizes_all = every size_holds size_samples

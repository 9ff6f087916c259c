-- Numbers given by the rule, from a table of the numbers so far.
use Rattle.std.specs.Prelude.{Bool, ◌&&◌, None, Option as Found, Some, not, List, ◌≡◌, ◌*◌, ◌<◌, ◌≤◌, ℕ, length, take}
use Rattle.std.proofs.Math.Option.{Option, none, some}
use Rattle.automata.specs.Automaton.{Transition}
use Rattle.automata.specs.Order.{precedes}
use Rattle.automata.specs.Renumber.{number_of, numbering, ready, renumber}
use Rattle.format.specs.Format.{byte_values, transition_bytes}
use Rattle.lists.specs.Tests.{every}
use Rattle.marking.specs.Marks.{marked}
use Rattle.minimize.specs.Renaming.{name_in}
use Rattle.table.specs.Layout.{nth_transition, out_of}

-- `numbers` has for each state its number in an order
pub record NumbersOf (numbers o : List ℕ) : Type 0 where
  pub number : (q : ℕ) → name_in numbers q ≡ number_of o q

-- no state has a number
abbrev pub Unnumbered : List ℕ → Type 0
Unnumbered numbers = (q : ℕ) → name_in numbers q ≡ 0

-- the arguments have numbers and the output has none
abbrev pub ready_by : List ℕ → Transition → Bool
ready_by numbers τ = every (marked numbers) τ.args && not (marked numbers τ.out)

-- a transition, if there is one
abbrev pub picked : List ℕ → Found ℕ → Option Transition
picked s None = none
picked s (Some i) = some (nth_transition s i)

-- transition i is ready, and comes before transition b if there is one
unfoldable pub improves : List ℕ → List ℕ → Found ℕ → ℕ → Bool
improves o s None i = ready o (nth_transition s i)
improves o s (Some b) i =
    ready o (nth_transition s i) &&
    precedes (renumber o (nth_transition s i)) (renumber o (nth_transition s b))

-- the outputs are states
abbrev pub Outputs : List ℕ → ℕ → Type 0
Outputs s n = (i : ℕ) → i < n → 1 ≤ out_of s (transition_bytes * i)

-- the first k of `order` are the states in the order of their numbers, and `numbers` has the number of each
pub record NumberingHeld (Q : List Transition) (order numbers : List ℕ) (k : ℕ) : Type 0 where
  pub few : k < byte_values
  pub size : length order ≡ byte_values
  pub states : take k order ≡ numbering Q
  pub numbered : NumbersOf numbers (numbering Q)

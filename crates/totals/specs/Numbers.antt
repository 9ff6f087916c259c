-- A number for each state, in one table: entry q has the number of state q, or none if it is over.
use Rattle.std.specs.Prelude.{Bool, List, None, Option, ◌≡◌, ◌+◌, ◌<◌, ◌≤◌, min, ℕ, get_or, length, nat_eq}
use Rattle.std.specs.Option.{option_eq}
use Rattle.automata.specs.Automaton.{Automaton, Transition, states}
use Rattle.automata.specs.Totals.{sum_into, trees_of}
use Rattle.format.specs.Format.{byte_values}
use Rattle.totals.specs.Limited.{limit, worth}

-- the number of state q, the limit if it is over
unfoldable pub number_in : List (Option ℕ) → ℕ → ℕ
number_in m q = worth (get_or m q None)

-- m' has v for q and is m elsewhere
pub record Put (q v : ℕ) (m m' : List (Option ℕ)) : Type 0 where
  pub size : length m' ≡ byte_values
  pub here : number_in m' q ≡ v
  pub elsewhere : (p : ℕ) → (p ≡ q → ⊥) → number_in m' p ≡ number_in m p

-- m' has v more for q than m, up to the limit, and is m elsewhere
abbrev pub Added : ℕ → ℕ → List (Option ℕ) → List (Option ℕ) → Type 0
Added q v m m' = Put q (min limit (number_in m q + v)) m m'

-- the numbers are those that the transitions give from w, up to the limit
pub record Sums (w : ℕ → ℕ) (τs : List Transition) (m : List (Option ℕ)) : Type 0 where
  pub size : length m ≡ byte_values
  pub each : (q : ℕ) → q < byte_values → number_in m q ≡ min limit (sum_into w q τs)

-- the numbers of the states are the numbers of their trees, up to the limit
pub record NumbersOf (A : Automaton) (m : List (Option ℕ)) : Type 0 where
  pub each : (q : ℕ) → 1 ≤ q → q ≤ states A → number_in m q ≡ min limit (trees_of A q)

-- state q has the same number in both
abbrev pub same_in : List (Option ℕ) → List (Option ℕ) → ℕ → Bool
same_in a b q = option_eq nat_eq (get_or a q None) (get_or b q None)

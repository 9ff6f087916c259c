-- An order of the states of transitions, and the transitions with its numbers, that were found by any means and are
-- right by the rule.
use Rattle.std.specs.Prelude.{true, List, map, ◌≡◌, ◌<◌, suc, ℕ, eqb, length}
use Rattle.automata.specs.Automaton.{Transition}
use Rattle.automata.specs.Numbered.{first_open}
use Rattle.automata.specs.Order.{rising}
use Rattle.automata.specs.Renumber.{renumber}
use Rattle.lists.specs.Closure.{elem}
use Rattle.lists.specs.Tests.{◌∈◌, every}

-- O has every state of W; L has as many transitions as W, each one of W with the numbers of O, sorted; and L gives
-- each number of O by the rule
pub record RuledOrder (W : List Transition) (O : List ℕ) (L : List Transition) : Type 0 where
  pub args : (τ : Transition) → τ ∈ W → every (λ q. elem eqb q O) τ.args ≡ true
  pub out : (τ : Transition) → τ ∈ W → elem eqb τ.out O ≡ true
  pub rises : rising L ≡ true
  pub below : (τ : Transition) → τ ∈ L → τ ∈ map (renumber O) W
  pub size : length L ≡ length W
  pub ruled : (k : ℕ) → k < length O → first_open k L ≡ suc k

-- What a table's automaton must pass, refusal 11 apart: 01's conditions 8 to 10, 12 and 13, and the ranges
-- of condition 7.
use Rattle.std.specs.Prelude.{Bool, ◌&&◌, true, ◌≡◌, ℕ, leb, length}
use Rattle.automata.specs.Accessible.{all_accessible}
use Rattle.automata.specs.Automaton.{Automaton, Transition, states}
use Rattle.automata.specs.Coaccessible.{all_coaccessible}
use Rattle.automata.specs.Distinguishable.{all_distinguishable}
use Rattle.automata.specs.Numbered.{numbered}
use Rattle.automata.specs.Order.{rising}
use Rattle.lists.specs.Tests.{◌∈◌, every}
use Rattle.trees.specs.Legal.{LegalNode}

-- q is one of 1 to n
abbrev pub in_range : ℕ → ℕ → Bool
in_range n q = leb 1 q && leb q n

-- arguments and outputs are states
abbrev pub states_in_range : Automaton → Bool
states_in_range A =
    every (λ τ. every (in_range (states A)) τ.args && in_range (states A) τ.out) A.transitions

-- every transition has a legal label and a legal number of arguments
abbrev pub LegalTransitions : Automaton → Type 0
LegalTransitions A = (τ : Transition) → τ ∈ A.transitions → LegalNode τ.label (length τ.args)

-- conditions 8 to 10, 12 and 13 hold, and the state numbers are in range
pub record Valid (A : Automaton) : Type 0 where
  pub ranged : states_in_range A ≡ true
  pub rises : rising A.transitions ≡ true
  pub reached : all_accessible A ≡ true
  pub used : all_coaccessible A ≡ true
  pub apart : all_distinguishable A ≡ true
  pub ruled : numbered A ≡ true

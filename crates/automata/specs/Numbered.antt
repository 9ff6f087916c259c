-- The numbering of states (01: numbering; refusal 13).
use Rattle.std.specs.Prelude.{Bool, ◌&&◌, cond, List, [], ◌∷◌, ◌≡◌, max, suc, ℕ, eqb, leb, ltb}
use Rattle.automata.specs.Automaton.{Automaton, Transition, states}
use Rattle.lists.specs.Positions.{up_from}
use Rattle.lists.specs.Tests.{every}

-- with 1 to k numbered: the arguments all have numbers and the output has none
abbrev pub opens : ℕ → Transition → Bool
opens k τ = every (λ q. leb q k) τ.args && ltb k τ.out

-- the output of the first transition that opens; 0 if none does
abbrev pub first_open : ℕ → List Transition → ℕ
first_open k [] = 0
first_open k (τ ∷ τs) = let r = first_open k τs in cond (opens k τ) τ.out r

-- condition 13: for each k below n, the first transition that opens gives its output the number k + 1
abbrev pub numbered : Automaton → Bool
numbered A = every (λ k. eqb (first_open k A.transitions) (suc k)) (up_from 0 (states A))

-- ---- the condition in one pass over the transitions

-- the greatest of a list of states; 0 if there is none
abbrev pub top : List ℕ → ℕ
top [] = 0
top (q ∷ qs) = max q (top qs)

-- the pass has read a list: the states that are seen are those that it numbers, each in its turn
pub record Passed (τs : List Transition) (seen : ℕ → Bool) : Type 0 where
  pub each : (k : ℕ) → first_open k τs ≡ cond (seen (suc k)) (suc k) 0

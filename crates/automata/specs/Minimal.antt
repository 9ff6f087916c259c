-- The minimal automaton: equivalent states merged, those equivalent to 0 dropped, numbered by the rule.
use Rattle.std.specs.Prelude.{Bool, cond, not, List, [], ◌∷◌, map, suc, ℕ, eqb}
use Rattle.automata.specs.Automaton.{Automaton, Transition, accepting, states, step}
use Rattle.automata.specs.Distinguishable.{distinguishable_pairs}
use Rattle.automata.specs.Renumber.{renumbered}
use Rattle.lists.specs.Closure.{elem}
use Rattle.lists.specs.Positions.{Pair, eq_pair, up_from}
use Rattle.lists.specs.Tests.{filter}

-- the first number that passes the test; 0 if none does
abbrev pub first : (ℕ → Bool) → List ℕ → ℕ
first p [] = 0
first p (x ∷ xs) = let r = first p xs in cond (p x) x r

-- the first of 0 to n that is equivalent to p; P lists the distinguishable pairs
unfoldable pub representative : List Pair → ℕ → ℕ → ℕ
representative P n p = first (λ q. not (elem eq_pair (p, q) P)) (up_from 0 (suc n))

-- a transition between representatives
unfoldable pub merge : Automaton → List Pair → Transition → Transition
merge A P τ = record {
  label = τ.label;
  args = map (representative P (states A)) τ.args;
  out = representative P (states A) (step A τ.label τ.args);
}

-- the transitions between representatives, without those into a state that is equivalent to 0
unfoldable pub quotient : Automaton → List Pair → List Transition
quotient A P = filter (λ τ. not (eqb 0 τ.out)) (map (merge A P) A.transitions)

-- the minimal automaton
unfoldable pub minimal : Automaton → Automaton
minimal A = renumbered (accepting A) (quotient A (distinguishable_pairs A))

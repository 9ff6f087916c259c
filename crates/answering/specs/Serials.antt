-- Number to tree: the refusals up to 13, and what comes after them.
use Rattle.std.specs.Prelude.{List, ◌∷◌, ℕ}
use Rattle.automata.specs.Automaton.{Automaton}
use Rattle.automata.specs.Ranks.{unrank}
use Rattle.automata.specs.Totals.{total}
use Rattle.calls.specs.Calls.{Response, buffer_condition, number_conditions, written}
use Rattle.calls.specs.declared.Answer.{Answer}
use Rattle.lists.specs.Conditions.{first_broken}
use Rattle.table.specs.Intake.{content_conditions, length_condition}

-- the first of 5 to 13 that is broken, or 0
unfoldable pub buffer_refusal : List ℕ → List ℕ → ℕ
buffer_refusal b l = first_broken (length_condition b ∷ buffer_condition l ∷ content_conditions b)

-- what a number gives if none of them is: 18 to 20, or the listing of its tree
unfoldable pub numbered : ℕ → Automaton → List ℕ → Response
numbered k A l = written (first_broken (number_conditions (total A) k (unrank A k))) (unrank A k) l

-- the answer and the buffer together
abbrev pub response_of : Answer → List ℕ → Response
response_of a l = record { answer = a; lent = l }

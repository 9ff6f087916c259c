-- What a table must pass: refusals 5 and 7 to 13.
use Rattle.std.specs.Prelude.{Bool, ◌&&◌, List, [], ◌∷◌, ◌≡◌, ◌≤◌, ℕ, eqb, leb, length}
use Rattle.automata.specs.Accessible.{all_accessible}
use Rattle.automata.specs.Acyclic.{Bounded, acyclic}
use Rattle.automata.specs.Automaton.{Automaton, accepts, states}
use Rattle.automata.specs.Canonical.{Canonical}
use Rattle.automata.specs.Coaccessible.{all_coaccessible}
use Rattle.automata.specs.Distinguishable.{all_distinguishable}
use Rattle.automata.specs.Numbered.{numbered}
use Rattle.automata.specs.Order.{rising}
use Rattle.automata.specs.Valid.{LegalTransitions}
use Rattle.format.specs.Format.{max_states, max_transitions, table_bytes}
use Rattle.lists.specs.Conditions.{Condition, condition, first_broken}
use Rattle.table.specs.Layout.{decode, encode, layout_fits}

-- condition 5
abbrev pub length_condition : List ℕ → Condition
length_condition b = condition 5 (eqb (length b) table_bytes)

-- conditions 9 to 13 of an automaton, in 01's order
unfoldable pub automaton_conditions : Automaton → List Condition
automaton_conditions A =
    condition 9 (all_accessible A) ∷ condition 10 (all_coaccessible A) ∷ condition 11 (acyclic A) ∷
    condition 12 (all_distinguishable A) ∷ condition 13 (numbered A) ∷ []

-- conditions 7 to 13, in 01's order
unfoldable pub content_conditions : List ℕ → List Condition
content_conditions b =
    condition 7 (layout_fits b) ∷ condition 8 (rising (decode b).transitions) ∷ automaton_conditions (decode b)

-- refusals 5 and 7 to 13: the number of the first condition broken, or 0
unfoldable pub table_refusal : List ℕ → ℕ
table_refusal b = first_broken (length_condition b ∷ content_conditions b)

-- the automaton has no more states and transitions than a table holds (01, refusal 17)
abbrev pub fits_table : Automaton → Bool
fits_table A = leb (states A) max_states && leb (length A.transitions) max_transitions

-- what a table can hold: so many states and transitions, with legal labels and arities
pub record WithinLimits (A : Automaton) : Type 0 where
  pub states : states A ≤ max_states
  pub transitions : length A.transitions ≤ max_transitions
  pub legal : LegalTransitions A

-- the table of a canonical automaton of a bounded set, within the limits
pub record CanonicalTable (b : List ℕ) : Type 0 where
  pub automaton : Automaton
  pub limits : WithinLimits automaton
  pub canonical : Canonical (accepts automaton) automaton
  pub bounded : Bounded (accepts automaton)
  pub bytes : b ≡ encode automaton

-- The automaton that code sees in bytes: the class of state q at byte q of one list, transitions in a run.
-- A table shows its own bytes and its body; a scratch shows classes that stand elsewhere.
use Rattle.std.specs.Prelude.{List, map, ◌<◌, ◌≤◌, ℕ, length}
use Rattle.automata.specs.Automaton.{Automaton}
use Rattle.fields.specs.Fields.{HoldsTransitionsOver}
use Rattle.lists.specs.Positions.{up_from}
use Rattle.table.specs.Layout.{class_at, transitions_in}

-- n states with classes from cl, c transitions from the run s
abbrev pub viewed : List ℕ → List ℕ → ℕ → ℕ → Automaton
viewed cl s n c = record { classes = map (class_at cl) (up_from 1 n); transitions = transitions_in s c }

-- what reading such an automaton needs: a byte numbers a state, and each state has a class
pub record Viewed (cl s : List ℕ) (n c : ℕ) : Type 0 where
  pub over : HoldsTransitionsOver s c n
  pub states : n ≤ 255
  pub classes : n < length cl

-- A transition with another state for one of its arguments.
use Rattle.std.specs.Prelude.{List, [], map, ◌+◌, ◌-◌, ℕ}
use Rattle.automata.specs.Distinguishable.{Slot, step_slot}
use Rattle.fields.specs.View.{viewed}
use Rattle.lists.specs.Positions.{up_from}
use Rattle.table.specs.Layout.{arg_of, arity_of, label_of}

-- the transition that starts at a byte, with argument k left out
abbrev pub slot_at : List ℕ → ℕ → ℕ → Slot
slot_at s at k = record {
  label = label_of s at;
  before = map (arg_of s at) (up_from 0 k);
  after = map (arg_of s at) (up_from (k + 1) (arity_of s at - (k + 1)));
}

-- the output of the transition with q for argument k
abbrev pub step_at : List ℕ → ℕ → ℕ → ℕ → ℕ → ℕ
step_at s c at k q = step_slot (viewed [] s 0 c) (slot_at s at k) q

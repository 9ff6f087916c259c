-- The transitions between names after a change, as two lists of numbers and as bytes.
use Rattle.std.specs.Prelude.{List, ◌≡◌, ℕ}
use Rattle.automata.specs.Automaton.{Transition}
use Rattle.automata.specs.Quotient.{quotient_list}
use Rattle.fields.specs.Fields.{HoldsTransitionsOver}
use Rattle.naming.specs.Choice.{name_in}
use Rattle.packed.specs.Heads.{HoldsPacked, packed_in}
use Rattle.subtrees.specs.Store.{bottom_up}
use Rattle.table.specs.Layout.{decode, transitions_in}
use Rattle.trees.specs.Tree.{Tree}

-- the transitions between the names of the subtrees of t
abbrev pub between_names : Tree → List ℕ → List ℕ → List Transition
between_names t b names = quotient_list (decode b) t (bottom_up t) (name_in (bottom_up t) names)

-- the first c entries of two lists are these transitions, packed
pub record Packed (t : Tree) (b names heads args : List ℕ) (c : ℕ) : Type 0 where
  pub holds : HoldsPacked heads args c
  pub list : packed_in heads args c ≡ between_names t b names

-- the first c transitions in the bytes s are these, with states 1 to `states`
pub record Run (t : Tree) (b names s : List ℕ) (c states : ℕ) : Type 0 where
  pub over : HoldsTransitionsOver s c states
  pub list : transitions_in s c ≡ between_names t b names

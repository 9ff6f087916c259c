-- What is known of a subtree for which a state is sought, and what is found.
use Rattle.std.specs.Prelude.{Bool, List, Option, ℕ}
use Rattle.alike.specs.Settings.{NamesKnown}
use Rattle.automata.specs.Automaton.{Automaton}
use Rattle.naming.specs.Choice.{StateChosen, StateSought, StateTried, StatesSlotted}
use Rattle.naming.specs.declared.sought.Sought.{Sought}
use Rattle.naming.specs.Settings.{KnownIn, anchors_in, raises_in}
use Rattle.packed.specs.declared.slots.Slot.{Slot}
use Rattle.pairs.specs.Counts.{Open}
use Rattle.trees.specs.Tree.{Tree}

-- the table, the setting, the marks and the names have what they are to have
abbrev pub KnownFor : Automaton → Tree → List Tree → (Tree → Bool) → Sought → Type 0
KnownFor A t ts S s = KnownIn A t ts S s.table.now s.setting.now

abbrev pub OpenFor : Automaton → Tree → Sought → Type 0
OpenFor A t s = Open A t s.marks.now

abbrev pub NamesFor : Automaton → Tree → List Tree → (Tree → ℕ) → Sought → Type 0
NamesFor A t ts N s = NamesKnown A t ts s.setting.now.subtrees.now s.j s.names.now N

-- the subtree is like a free state, or it was tried whether it is
abbrev pub ChosenFor : Automaton → Tree → (Tree → Bool) → List Tree → (Tree → ℕ) → Sought → ℕ → Type 0
ChosenFor A t S ts N s q = StateChosen A t S ts N s.j q

abbrev pub TriedFor : Automaton → Tree → (Tree → Bool) → List Tree → (Tree → ℕ) → Sought → ℕ → Bool → Type 0
TriedFor A t S ts N s q r = StateTried A t S ts N s.j q r

-- such a state, if there is one
abbrev pub FoundFor : Automaton → Tree → (Tree → Bool) → List Tree → (Tree → ℕ) → Sought → Option ℕ → Type 0
FoundFor A t S ts N s o = StateSought A t S ts s.setting.now.n N s.j o

-- a slot that has every state that the subtree is like
abbrev pub SlottedFor : Automaton → Tree → (Tree → Bool) → List Tree → (Tree → ℕ) → Sought → Slot → Type 0
SlottedFor A t S ts N s z = StatesSlotted A t S ts s.setting.now.transitions.now s.setting.now.count N s.j z

-- subtree i is a parent, and its name is its own alone, or some subtree's own
abbrev pub anchors_for : Sought → List ℕ → ℕ → Bool
anchors_for s shared i = anchors_in s.setting.now s.names.now shared s.j i

abbrev pub raises_for : Sought → ℕ → Bool
raises_for s i = raises_in s.setting.now s.names.now s.j i

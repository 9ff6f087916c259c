-- The facts about a setting and its subtrees that the contracts of this crate and of the one above it speak of.
use Rattle.std.specs.Prelude.{Bool, List, ◌≡◌, ℕ}
use Rattle.automata.specs.Automaton.{Automaton}
use Rattle.packed.specs.declared.slots.Slot.{Slot}
use Rattle.subtrees.specs.declared.Subtrees.{Subtrees}
use Rattle.subtrees.specs.Frames.{frame_at}
use Rattle.table.specs.Layout.{transitions_in}
use Rattle.trees.specs.Context.{Frame}
use Rattle.trees.specs.Tree.{Tree}
use Rattle.uses.specs.declared.setting.Setting.{Setting}
use Rattle.alike.specs.Agreeing.{parent_agrees, place_agrees}
use Rattle.alike.specs.declared.frames.Candidate.{Candidate}
use Rattle.alike.specs.Known.{Holds, NamedAbove}
use Rattle.alike.specs.Slots.{SlotOf}

-- the setting has the transitions of A; the arrays hold the distinct subtrees of t
abbrev pub HasTransitions : Automaton → Setting → Type 0
HasTransitions A g = A.transitions ≡ transitions_in g.transitions.now g.count

abbrev pub HoldsSubtrees : Automaton → Tree → List Tree → Subtrees → Type 0
HoldsSubtrees A t ts s = Holds A t ts s.count s.labels s.arities s.children s.states

-- the names of the subtrees above j are known
abbrev pub NamesKnown : Automaton → Tree → List Tree → Subtrees → ℕ → List ℕ → (Tree → ℕ) → Type 0
NamesKnown A t ts s j names N = NamedAbove A t ts s.count j names N

-- the subtree at index i without its child k
abbrev pub frame_in : List Tree → Subtrees → ℕ → ℕ → Frame
frame_in ts s i k = frame_at ts s.labels s.arities s.children i k

-- the names that a candidate gives
abbrev pub place_agrees_in : Automaton → (Tree → ℕ) → List Tree → Subtrees → ℕ → Candidate → ℕ → ℕ → Bool
place_agrees_in A N ts s a x i k = place_agrees A N ts s.labels s.arities s.children a x i k

abbrev pub parent_agrees_in : Automaton → (Tree → ℕ) → List Tree → Subtrees → ℕ → Candidate → ℕ → Bool
parent_agrees_in A N ts s a x i = parent_agrees A N ts s.labels s.arities s.children a x i

-- a slot for each state that subtree j is like
abbrev pub SlotIn : Subtrees → ℕ → List ℕ → Slot → Type 0
SlotIn s j names z = SlotOf s.count j s.labels s.arities s.children s.states names z

-- The facts about subtrees and about a setting that the contracts of this crate and of those above it speak of.
use Rattle.std.specs.Prelude.{Bool, ◌&&◌, List, ℕ}
use Rattle.automata.specs.Automaton.{Automaton}
use Rattle.subtrees.specs.Parents.{ParentsWithin}
use Rattle.subtrees.specs.declared.Subtrees.{Subtrees}
use Rattle.trees.specs.Tree.{Tree}
use Rattle.uses.specs.declared.setting.Frames.{Frames}
use Rattle.uses.specs.declared.setting.Setting.{Setting}
use Rattle.uses.specs.Frames.{frame_count, frame_of, in_slot}
use Rattle.uses.specs.Uses.{Arrays, BothWithin, Holds, arrays, covered_at, place_agrees, swap_agrees}
use Rattle.uses.specs.Uses.{transition_agrees, transitions_agree}
use Rattle.uses.specs.Walks.{Walked}

-- the parents of subtree j have indices from start on and below end
abbrev pub ParentsFrom : Subtrees → ℕ → ℕ → ℕ → Type 0
ParentsFrom s j start end = ParentsWithin s.count s.arities s.children j start end

-- subtrees, the number of pairs of each state, and the two subtrees of the frames, the second 0 for none
abbrev pub arrays_of : Subtrees → List ℕ → ℕ → ℕ → Arrays
arrays_of s w j v = arrays s.labels s.arities s.children s.states w s.count j v

abbrev pub arrays_in : Setting → Frames → Arrays
arrays_in g f = arrays_of g.subtrees.now g.weights.now f.first f.second

-- the frames of one subtree
abbrev pub frames_of_one : ℕ → ℕ → ℕ → Frames
frames_of_one j start end = record { first = j; second = 0; start = start; end = end }

-- the bounds of the frames hold
abbrev pub FramesWithin : Subtrees → Frames → Type 0
FramesWithin s f = BothWithin s.count s.arities s.children f.first f.second f.start f.end

-- the definitions of Frames for transitions, subtrees and frames
abbrev pub in_slot_in : List ℕ → Subtrees → ℕ → ℕ → ℕ → Bool
in_slot_in b s at k i = in_slot b at k s.labels s.arities s.children s.states i

abbrev pub frame_of_in : Subtrees → Frames → ℕ → ℕ → Bool
frame_of_in s f k i = frame_of s.labels s.arities s.children s.count f.first f.second k i

abbrev pub framed_in : List ℕ → Subtrees → Frames → ℕ → ℕ → ℕ → Bool
framed_in b s f at k i = frame_of_in s f k i && in_slot_in b s at k i

abbrev pub frame_count_in : List ℕ → Subtrees → Frames → ℕ → ℕ → ℕ
frame_count_in b s f at k = frame_count b at k s.labels s.arities s.children s.states s.count f.first f.second

-- the definitions of Uses and Walks for a setting and frames
abbrev pub covered_in : Setting → Frames → ℕ → ℕ → Bool
covered_in g f at k = covered_at (arrays_in g f) g.transitions.now at k

abbrev pub swap_agrees_in : Setting → Frames → ℕ → ℕ → ℕ → Bool
swap_agrees_in g f at k q = swap_agrees (arrays_in g f) g.transitions.now g.count at k q

abbrev pub place_agrees_in : Setting → Frames → ℕ → ℕ → ℕ → ℕ → Bool
place_agrees_in g f at p q k = place_agrees (arrays_in g f) g.transitions.now g.count at p q k

abbrev pub transition_agrees_in : Setting → Frames → ℕ → ℕ → ℕ → Bool
transition_agrees_in g f p q i = transition_agrees (arrays_in g f) g.transitions.now g.count p q i

abbrev pub transitions_agree_in : Setting → Frames → ℕ → ℕ → Bool
transitions_agree_in g f p q = transitions_agree (arrays_in g f) g.transitions.now g.count p q

abbrev pub WalkedIn : Setting → Frames → ℕ → ℕ → ℕ → ℕ → ℕ → Type 0
WalkedIn g f k p q i x = Walked (arrays_in g f) g.transitions.now g.count k p q i x

-- the setting has the transitions of A and the subtrees of t
abbrev pub HoldsIn : Automaton → Tree → List Tree → Setting → Type 0
HoldsIn A t ts g =
    Holds A t ts g.transitions.now g.count g.n g.subtrees.now.labels g.subtrees.now.arities g.subtrees.now.children
    g.subtrees.now.states g.weights.now g.subtrees.now.count

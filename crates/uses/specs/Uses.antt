-- The uses of two states in the transitions, and which of them the frames of two subtrees cover.
use Rattle.std.specs.Prelude.{Bool, ◌&&◌, ◌||◌, cond, false, not, true, List, ◌⊎◌, ◌≡◌, ◌*◌, ◌+◌, ◌<◌, ◌≤◌, ℕ, eqb, get_or}
use Rattle.automata.specs.Alike.{frames_of}
use Rattle.automata.specs.Automaton.{Automaton}
use Rattle.automata.specs.Change.{subtrees}
use Rattle.automata.specs.OpenStates.{pairs_of}
use Rattle.automata.specs.Totals.{product_over}
use Rattle.sorted.specs.Steps.{step_at}
use Rattle.format.specs.Format.{max_arity, max_nodes, transition_bytes}
use Rattle.lists.specs.Positions.{up_from}
use Rattle.lists.specs.Tests.{◌∈◌, every}
use Rattle.packed.specs.declared.slots.Slot.{Slot}
use Rattle.packed.specs.Slots.{SlotTakes}
use Rattle.subtrees.specs.Parents.{ParentsWithin}
use Rattle.subtrees.specs.Store.{Stored, tree_numbered}
use Rattle.table.specs.Layout.{arg_of, arity_of, out_of, transitions_in}
use Rattle.trees.specs.Context.{Frame}
use Rattle.trees.specs.Tree.{Tree}
use Rattle.uses.specs.Frames.{frame_count}

-- the arrays of m subtrees, the number of pairs of each state, and the two subtrees, the second 0 for none
pub record Arrays : Type 0 where
  pub labels : List ℕ
  pub arities : List ℕ
  pub children : List ℕ
  pub states : List ℕ
  pub weights : List ℕ
  pub size : ℕ
  pub first : ℕ
  pub second : ℕ

abbrev pub arrays : List ℕ → List ℕ → List ℕ → List ℕ → List ℕ → ℕ → ℕ → ℕ → Arrays
arrays l r c q w m j v = record {
  labels = l;
  arities = r;
  children = c;
  states = q;
  weights = w;
  size = m;
  first = j;
  second = v;
}

-- ---- covered slots

-- products are cut at one more than there can be frames
abbrev pub product_cap : ℕ
product_cap = max_nodes + 1

-- the number of pairs of argument x; 1 for argument k, which is left out
unfoldable pub factor_at : List ℕ → List ℕ → ℕ → ℕ → ℕ → ℕ
factor_at w s at k x = cond (eqb x k) 1 (get_or w (arg_of s at x) 0)

abbrev pub product_at : List ℕ → List ℕ → ℕ → ℕ → ℕ
product_at w s at k = product_over (factor_at w s at k) (up_from 0 (arity_of s at))

-- there are as many frames at the slot of argument k as choices of pairs for the other arguments
unfoldable pub covered_at : Arrays → List ℕ → ℕ → ℕ → Bool
covered_at a s at k =
    eqb (product_at a.weights s at k)
    (frame_count s at k a.labels a.arities a.children a.states a.size a.first a.second)

-- ---- uses

-- with q for argument k the transition has the same output, or the slot is covered
unfoldable pub swap_agrees : Arrays → List ℕ → ℕ → ℕ → ℕ → ℕ → Bool
swap_agrees a s c at k q = eqb (step_at s c at k q) (out_of s at) || covered_at a s at k

-- if argument k is p or q, the transition agrees with the other one in its place
abbrev pub place_agrees : Arrays → List ℕ → ℕ → ℕ → ℕ → ℕ → ℕ → Bool
place_agrees a s c at p q k =
    cond (eqb (arg_of s at k) p) (swap_agrees a s c at k q)
    (cond (eqb (arg_of s at k) q) (swap_agrees a s c at k p) true)

-- the same for each argument of transition i, and for each transition
unfoldable pub transition_agrees : Arrays → List ℕ → ℕ → ℕ → ℕ → ℕ → Bool
transition_agrees a s c p q i =
    every (place_agrees a s c (transition_bytes * i) p q) (up_from 0 (arity_of s (transition_bytes * i)))

abbrev pub transitions_agree : Arrays → List ℕ → ℕ → ℕ → ℕ → Bool
transitions_agree a s c p q = every (transition_agrees a s c p q) (up_from 0 c)

-- argument k of the transition that starts at a byte is neither of two states
abbrev pub neither_at : List ℕ → ℕ → ℕ → ℕ → ℕ → Bool
neither_at s at p q k = not (eqb (arg_of s at k) p) && not (eqb (arg_of s at k) q)

-- if b is false, some transition does not agree; if b is true, nothing is known
pub record Hinted (a : Arrays) (s : List ℕ) (c p q : ℕ) (b : Bool) : Type 0 where
  pub refused : b ≡ false → transitions_agree a s c p q ≡ false

-- every state that is used like p has the output of the slot z there
pub record SlotUsed (a : Arrays) (s : List ℕ) (c p : ℕ) (z : Slot) : Type 0 where
  pub place : z.place < max_arity
  pub takes : (q : ℕ) → transitions_agree a s c p q ≡ true → SlotTakes s c z q

-- ---- what is read

-- the parents of subtrees j and v have indices from start on and below end
pub record BothWithin (m : ℕ) (r h : List ℕ) (j v start end : ℕ) : Type 0 where
  pub first : ParentsWithin m r h j start end
  pub second : ParentsWithin m r h v start end

-- ---- what the arrays hold

-- the bytes s hold the transitions of A, over n states, and the arrays the subtrees of t and the numbers of pairs
pub record Holds (A : Automaton) (t : Tree) (ts : List Tree) (s : List ℕ) (c n : ℕ) (l r h q w : List ℕ) (m : ℕ) : Type 0
  where
    pub transitions : A.transitions ≡ transitions_in s c
    pub stored : Stored A ts m l r h q
    pub subtree : (x : Tree) → x ∈ ts → x ∈ subtrees t
    pub every-subtree : (x : Tree) → x ∈ subtrees t → x ∈ ts
    pub weights : (x : ℕ) → 1 ≤ x → x ≤ n → get_or w x 0 ≡ pairs_of A t x

-- F has the frames of subtree j, and those of v unless it is 0
pub record FramesOf (t : Tree) (ts : List Tree) (m j v : ℕ) (F : List Frame) : Type 0 where
  pub some : 1 ≤ j
  pub known : j ≤ m
  pub other : v ≤ m
  pub apart : j ≡ v → ⊥
  pub frame : (f : Frame) → f ∈ F →
      (f ∈ frames_of t (tree_numbered ts j)) ⊎ ((1 ≤ v) × (f ∈ frames_of t (tree_numbered ts v)))
  pub of-first : (f : Frame) → f ∈ frames_of t (tree_numbered ts j) → f ∈ F
  pub of-second : (f : Frame) → 1 ≤ v → f ∈ frames_of t (tree_numbered ts v) → f ∈ F

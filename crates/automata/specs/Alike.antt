-- The local criterion: whether a subtree of t can stand for a state or for another subtree after a change of the set
-- by t. It reads the edges of t and the slots of the automaton's transitions. N names the trees.
use Rattle.std.specs.Prelude.{Bool, ◌&&◌, ◌||◌, cond, List, [], ◌++◌, ◌∷◌, map, ℕ, eqb, length}
use Rattle.std.specs.Bool.{beq}
use Rattle.automata.specs.Automaton.{Automaton, accepting, run, runs}
use Rattle.automata.specs.Change.{subtrees}
use Rattle.automata.specs.ContextRun.{step_frame}
use Rattle.automata.specs.Distinguishable.{Slot, slots, step_slot}
use Rattle.automata.specs.OpenStates.{pairs_of}
use Rattle.automata.specs.Product.{concat_map}
use Rattle.automata.specs.Totals.{product_over}
use Rattle.lists.specs.Closure.{elem}
use Rattle.lists.specs.Tests.{every, filter, same_list}
use Rattle.trees.specs.Context.{Frame, fill}
use Rattle.trees.specs.Tree.{Forest, Tree, cons, eq_forest, eq_tree, nil, node}

-- ---- the frames in which a tree stands

-- a frame with one more child before the gap
abbrev pub push_tree : Tree → Frame → Frame
push_tree v f = record { label = f.label; before = cons v f.before; after = f.after }

-- the frames over u of a label with children, one for each place at which they have u
abbrev pub gaps : ℕ → Forest → Tree → List Frame
gaps a nil u = []
gaps a (cons v g) u =
    let r = map (push_tree v) (gaps a g u) in cond (eq_tree u v) (record { label = a; before = nil; after = g } ∷ r) r

-- the frames over u of a node
abbrev pub node_frames : Tree → Tree → List Frame
node_frames u (node a g) = gaps a g u

-- the frames that make a subtree of t when u is put in
unfoldable pub frames_of : Tree → Tree → List Frame
frames_of t u = concat_map (node_frames u) (subtrees t)

-- two frames are equal
abbrev pub eq_frame : Frame → Frame → Bool
eq_frame f g = eqb f.label g.label && eq_forest f.before g.before && eq_forest f.after g.after

-- the frames of a list, each once
abbrev pub distinct_frames : List Frame → List Frame
distinct_frames [] = []
distinct_frames (f ∷ F) = let r = distinct_frames F in cond (elem eq_frame f r) r (f ∷ r)

-- ---- the slots of states below them

-- the slot that a frame's siblings run to
abbrev pub state_slot : Automaton → Frame → Slot
state_slot A f = record { label = f.label; before = runs A f.before; after = runs A f.after }

-- two slots are equal
abbrev pub eq_slot : Slot → Slot → Bool
eq_slot π ρ = eqb π.label ρ.label && same_list π.before ρ.before && same_list π.after ρ.after

-- the frames of a list that run to a slot, each once
unfoldable pub frames_at : Automaton → Slot → List Frame → List Frame
frames_at A π F = filter (λ f. eq_slot (state_slot A f) π) (distinct_frames F)

-- a slot is covered if the frames of a list take all choices of pairs for its arguments
unfoldable pub covered : Automaton → Tree → Slot → List Frame → Bool
covered A t π F = eqb (product_over (pairs_of A t) (π.before ++ π.after)) (length (frames_at A π F))

-- two states, or 0, go to the same state from every slot that is not covered
unfoldable pub uses_agree : Automaton → Tree → List Frame → ℕ → ℕ → Bool
uses_agree A t F p q =
    every (λ π. covered A t π F || eqb (step_slot A π p) (step_slot A π q)) (slots A.transitions)

-- ---- the criterion

-- u can stand for another subtree v: the class, the names in the frames of both, and the uses outside them agree
unfoldable pub like_subtree : Automaton → Tree → (Tree → Bool) → (Tree → ℕ) → Tree → Tree → Bool
like_subtree A t S N u v =
    beq (S u) (S v) && every (λ f. eqb (N (fill f u)) (N (fill f v))) (frames_of t u ++ frames_of t v) &&
    uses_agree A t (frames_of t u ++ frames_of t v) (run A u) (run A v)

-- u can stand for a state q, or for 0
unfoldable pub like_state : Automaton → Tree → (Tree → Bool) → (Tree → ℕ) → Tree → ℕ → Bool
like_state A t S N u q =
    beq (S u) (accepting A q) && every (λ f. eqb (N (fill f u)) (step_frame A f q)) (frames_of t u) &&
    uses_agree A t (frames_of t u) (run A u) q

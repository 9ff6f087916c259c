-- The names in the frames over a subtree, by parents and places.
use Rattle.std.specs.Prelude.{Bool, ◌&&◌, ◌||◌, not, List, ◌++◌, ◌-◌, ℕ, eqb, get_or}
use Rattle.std.specs.Bool.{beq}
use Rattle.automata.specs.Alike.{frames_of}
use Rattle.automata.specs.Automaton.{Automaton, accepting}
use Rattle.automata.specs.ContextRun.{step_frame}
use Rattle.lists.specs.Positions.{up_from}
use Rattle.lists.specs.Tests.{every}
use Rattle.subtrees.specs.Frames.{frame_at}
use Rattle.subtrees.specs.Store.{child_at, tree_numbered}
use Rattle.trees.specs.Context.{Frame, fill}
use Rattle.trees.specs.Tree.{Tree, no_tree}
use Rattle.alike.specs.declared.frames.Candidate.{Candidate}
use Rattle.alike.specs.declared.frames.Candidate.TheVariants.{State, Subtree}

-- the state of the subtree whose number is entry k of a list
abbrev pub state_of : List ℕ → List ℕ → ℕ → ℕ
state_of q ns k = get_or q (get_or ns k 0 - 1) 0

-- the name that a candidate gives a frame: the step of the state, or the name of the frame filled with the subtree
abbrev pub name_in : Automaton → (Tree → ℕ) → List Tree → Candidate → Frame → ℕ
name_in A N ts (State q) f = step_frame A f q
name_in A N ts (Subtree v) f = N (fill f (tree_numbered ts v))

-- the parent at index i has the name that the candidate gives its frame at place k
abbrev pub frame_agrees : Automaton → (Tree → ℕ) → List Tree → List ℕ → List ℕ → List ℕ → Candidate → ℕ → ℕ → Bool
frame_agrees A N ts l r c x i k = eqb (N (get_or ts i no_tree)) (name_in A N ts x (frame_at ts l r c i k))

-- the same if its child k is subtree a; true of any other child
abbrev pub place_agrees : Automaton → (Tree → ℕ) → List Tree → List ℕ → List ℕ → List ℕ → ℕ → Candidate → ℕ → ℕ → Bool
place_agrees A N ts l r c a x i k = not (eqb (child_at c i k) a) || frame_agrees A N ts l r c x i k

-- the same at each of its places
abbrev pub parent_agrees : Automaton → (Tree → ℕ) → List Tree → List ℕ → List ℕ → List ℕ → ℕ → Candidate → ℕ → Bool
parent_agrees A N ts l r c a x i = every (place_agrees A N ts l r c a x i) (up_from 0 (get_or r i 0))

-- ---- the criterion without its part about uses

-- u has the class of q, a state or 0, and in each of its frames the name that q has there
unfoldable pub named_like_state : Automaton → Tree → (Tree → Bool) → (Tree → ℕ) → Tree → ℕ → Bool
named_like_state A t S N u q =
    beq (S u) (accepting A q) && every (λ f. eqb (N (fill f u)) (step_frame A f q)) (frames_of t u)

-- u and v have the same class and, in each frame of either, the same name
unfoldable pub named_like_subtree : Tree → (Tree → Bool) → (Tree → ℕ) → Tree → Tree → Bool
named_like_subtree t S N u v =
    beq (S u) (S v) && every (λ f. eqb (N (fill f u)) (N (fill f v))) (frames_of t u ++ frames_of t v)

-- The local criterion is exact: it passes exactly if class and name agree in every frame.
use mathlib.Core.Bool.{Bool, false, true}
use mathlib.Core.List.{List, ◌++◌}
use mathlib.Core.Logic.{◌↔◌, ◌≢◌, ◌⊎◌, inl, inr}
use mathlib.Core.Path.{◌≡◌, refl}
use Prim.Native.Nat.{ℕ}
use Rattle.automata.specs.Alike.{frames_of, like_state, like_subtree}
use Rattle.automata.specs.Automaton.{Automaton, Fits, accepting, run}
use Rattle.automata.specs.ContextRun.{step_frame}
use Rattle.automata.specs.Names.{is_subtree}
use Rattle.lists.specs.Tests.{◌∈◌}
use Rattle.trees.specs.Context.{Frame, fill}
use Rattle.trees.specs.Tree.{Tree, ◌⧺◌}
use Rattle.automata.proofs.Frames.{frame-siblings, outside-name}
use Rattle.automata.proofs.SubtreeNodes.{InTree}
use Rattle.automata.proofs.Uses.{agreed, agreeing, differing}
use Rattle.lists.proofs.Tests.{append-in, in_append_left, in_append_right}

module _ (A : Automaton) (fit : Fits A) (t : Tree) (S : Tree → Bool) (N : Tree → ℕ)
    (others : (u : Tree) → is_subtree t u ≡ false → N u ≡ run A u) where
  module _ (u : Tree) (q : ℕ) where
    -- u against a state, or against 0
    pub like-state : like_state A t S N u q ≡ true ↔
        ((S u ≡ accepting A q) × ((f : Frame) → N (fill f u) ≡ step_frame A f q))
    unfolding like_state
    like-state = (
      agreeing A fit t (frames_of t u) (frame-siblings t u) (run A u) q (S u) (accepting A q) (λ f. N (fill f u))
          (λ f. step_frame A f q) (outside-name t u A N others) (λ f miss. refl),
      agreed A fit t (frames_of t u) (frame-siblings t u) (run A u) q (S u) (accepting A q) (λ f. N (fill f u))
          (λ f. step_frame A f q) (outside-name t u A N others) (λ f miss. refl),
    )

    -- what a failed test shows
    pub unlike-state : like_state A t S N u q ≡ false →
        (S u ≢ accepting A q) ⊎ ((f : Frame) × (N (fill f u) ≢ step_frame A f q))
    unfolding like_state
    unlike-state =
        differing A fit t (frames_of t u) (frame-siblings t u) (run A u) q (S u) (accepting A q) (λ f. N (fill f u))
        (λ f. step_frame A f q) (outside-name t u A N others) (λ f miss. refl)

  module _ (u v : Tree) where
    abbrev F : List Frame
    F = frames_of t u ++ frames_of t v

    siblings : (f : Frame) → f ∈ F → InTree A t (f.before ⧺ f.after)
    siblings f i = go (append-in (frames_of t u) (frames_of t v) f i)
      where
        go : (f ∈ frames_of t u) ⊎ (f ∈ frames_of t v) → InTree A t (f.before ⧺ f.after)
        go (inl j) = frame-siblings t u f j
        go (inr j) = frame-siblings t v f j

    first : (f : Frame) → (f ∈ F → ⊥) → N (fill f u) ≡ step_frame A f (run A u)
    first f miss = outside-name t u A N others f (λ i. miss (in_append_left (frames_of t u) (frames_of t v) f i))

    second : (f : Frame) → (f ∈ F → ⊥) → N (fill f v) ≡ step_frame A f (run A v)
    second f miss = outside-name t v A N others f (λ i. miss (in_append_right (frames_of t u) (frames_of t v) f i))

    -- u against another subtree
    pub like-subtree : like_subtree A t S N u v ≡ true ↔
        ((S u ≡ S v) × ((f : Frame) → N (fill f u) ≡ N (fill f v)))
    unfolding like_subtree
    like-subtree = (
      agreeing A fit t F siblings (run A u) (run A v) (S u) (S v) (λ f. N (fill f u)) (λ f. N (fill f v)) first second,
      agreed A fit t F siblings (run A u) (run A v) (S u) (S v) (λ f. N (fill f u)) (λ f. N (fill f v)) first second,
    )

-- The criterion from its parts: the class, and the names in the frames by parents and places.
use mathlib.Core.Bool.{Bool, beq, ◌&&◌, false, not, true}
use mathlib.Core.List.{List, [], ◌++◌, ◌∷◌}
use mathlib.Core.Path.{◌∙◌, ◌≡◌, ap, ap₂, refl, sym}
use Prim.Native.Nat.{◌-◌, ◌<◌, ◌≤◌, ℕ}
use lib.Dec.{eqb}
use lib.ListN.{get_or}
use borrow.Author.Tests.{eq-eqb, eqb-false, eqb-true, ne_eqb}
use Rattle.automata.specs.Alike.{frames_of, like_state, like_subtree, uses_agree}
use Rattle.automata.specs.Automaton.{Automaton, accepting, run}
use Rattle.automata.specs.ContextRun.{step_frame}
use Rattle.lists.specs.Positions.{up_from}
use Rattle.lists.specs.Tests.{every}
use Rattle.subtrees.specs.Frames.{frame_at}
use Rattle.subtrees.specs.Store.{child_at, tree_numbered}
use Rattle.trees.specs.Context.{Frame, fill}
use Rattle.trees.specs.Tree.{Tree, no_tree}
use Rattle.alike.specs.Agreeing.{frame_agrees, named_like_state, named_like_subtree, parent_agrees}
use Rattle.alike.specs.declared.frames.Candidate.TheVariants.{State, Subtree}
use Rattle.alike.specs.Known.{Holds}
use Rattle.subtrees.proofs.Frames.{every-frame, fill-own}

-- ---- classes

pub class-set : (a b : ℕ) → a ≡ 1 → eqb b 1 ≡ beq (eqb a 1) (eqb b 1)
class-set a b e = rw (eq-eqb a 1 e) (go (eqb b 1))
  where
    go : (x : Bool) → x ≡ beq true x
    go true = refl
    go false = refl

pub class-other : (a b : ℕ) → (a ≡ 1 → ⊥) → {r : Bool} → r ≡ beq false (eqb b 1) → r ≡ beq (eqb a 1) (eqb b 1)
class-other a b d e = rw (ne_eqb a 1 d) e

pub class-unset : (b : ℕ) → not (eqb b 1) ≡ beq false (eqb b 1)
class-unset b = go (eqb b 1)
  where
    go : (x : Bool) → not x ≡ beq false x
    go true = refl
    go false = refl

-- the class of subtree j by a number that equals j
pub numbered-class : (cl : List ℕ) {j w : ℕ} {b : Bool} → w ≡ j → eqb (get_or cl (j - 1) 0) 1 ≡ b →
    eqb (get_or cl (w - 1) 0) 1 ≡ b
numbered-class cl e d = ap (λ x. eqb (get_or cl (x - 1) 0) 1) e ∙ d

-- ---- names

-- a frame gives two trees the same name
abbrev pub agree : (Tree → ℕ) → Tree → Tree → Frame → Bool
agree N u v f = eqb (N (fill f u)) (N (fill f v))

every-joined : (p : Frame → Bool) (F G : List Frame) → (every p F && every p G) ≡ every p (F ++ G)
every-joined p [] G = refl
every-joined p (f ∷ F) G = go (p f) (every-joined p F G)
  where
    go : (b : Bool) → (every p F && every p G) ≡ every p (F ++ G) → ((b && every p F) && every p G) ≡ (b && every p (F ++ G))
    go true ih = ih
    go false ih = refl

eqb-turned : (x y : ℕ) → eqb x y ≡ eqb y x
eqb-turned x y = go (eqb x y) refl
  where
    go : (b : Bool) → eqb x y ≡ b → b ≡ eqb y x
    go true e = sym (eq-eqb y x (sym (eqb-true x y e)))
    go false e = sym (ne_eqb y x (λ d. eqb-false x y e (sym d)))

module _ {A : Automaton} {t : Tree} {ts : List Tree} {m : ℕ} {l r c q : List ℕ} (holds : Holds A t ts m l r c q)
    (N : Tree → ℕ) (j : ℕ) (some : 1 ≤ j) (known : j ≤ m) where
  -- the parent's name is that of the frame filled with the parent's own child
  pub own_name : (i k : ℕ) → i < m → k < get_or r i 0 → child_at c i k ≡ j →
      N (get_or ts i no_tree) ≡ N (fill (frame_at ts l r c i k) (tree_numbered ts j))
  own_name i k h g e =
      ap N (sym (fill-own holds.stored i k h g) ∙ ap (λ x. fill (frame_at ts l r c i k) (tree_numbered ts x)) e)

  -- b is the result of the loop over the parents of subtree w
  pub state-names : (x : ℕ) {w : ℕ} {b : Bool} → w ≡ j →
      b ≡ every (parent_agrees A N ts l r c w (State x)) (up_from 0 m) →
      b ≡ every (λ f. eqb (N (fill f (tree_numbered ts j))) (step_frame A f x)) (frames_of t (tree_numbered ts j))
  state-names x z d =
      d ∙ ap (λ a. every (parent_agrees A N ts l r c a (State x)) (up_from 0 m)) z
      ∙ every-frame holds.stored t holds.subtree holds.every-subtree
      (λ f. eqb (N (fill f (tree_numbered ts j))) (step_frame A f x)) (frame_agrees A N ts l r c (State x)) j some known
      (λ i k h g e. ap (λ n. eqb n (step_frame A (frame_at ts l r c i k) x)) (own_name i k h g e))

  pub subtree-names : (x : ℕ) {w : ℕ} {b : Bool} → w ≡ j →
      b ≡ every (parent_agrees A N ts l r c w (Subtree x)) (up_from 0 m) →
      b ≡ every (agree N (tree_numbered ts j) (tree_numbered ts x)) (frames_of t (tree_numbered ts j))
  subtree-names x z d =
      d ∙ ap (λ a. every (parent_agrees A N ts l r c a (Subtree x)) (up_from 0 m)) z
      ∙ every-frame holds.stored t holds.subtree holds.every-subtree
      (agree N (tree_numbered ts j) (tree_numbered ts x)) (frame_agrees A N ts l r c (Subtree x)) j some known
      (λ i k h g e. ap (λ n. eqb n (N (fill (frame_at ts l r c i k) (tree_numbered ts x)))) (own_name i k h g e))

  pub turned-names : (x : ℕ) {w : ℕ} {b : Bool} → w ≡ j →
      b ≡ every (parent_agrees A N ts l r c w (Subtree x)) (up_from 0 m) →
      b ≡ every (agree N (tree_numbered ts x) (tree_numbered ts j)) (frames_of t (tree_numbered ts j))
  turned-names x z d =
      subtree-names x z d
      ∙ ap (λ p. every p (frames_of t (tree_numbered ts j)))
      (λ i f. eqb-turned (N (fill f (tree_numbered ts j))) (N (fill f (tree_numbered ts x))) i)

-- ---- the criterion without its part about uses

module _ (A : Automaton) (t : Tree) (S : Tree → Bool) (N : Tree → ℕ) (u : Tree) (q a b : ℕ) {e : Bool}
    (mine : eqb a 1 ≡ S u) (other : eqb b 1 ≡ accepting A q) (same : e ≡ beq (eqb a 1) (eqb b 1)) where
  class_of : e ≡ beq (S u) (accepting A q)
  class_of = same ∙ ap₂ beq mine other

  pub state-other : e ≡ false → false ≡ named_like_state A t S N u q
  unfolding named_like_state
  state-other d = rw (sym class_of, d)

  pub state-named : {r : Bool} → e ≡ true →
      r ≡ every (λ f. eqb (N (fill f u)) (step_frame A f q)) (frames_of t u) → r ≡ named_like_state A t S N u q
  unfolding named_like_state
  state-named d f = rw (sym class_of, d) f

module _ (t : Tree) (S : Tree → Bool) (N : Tree → ℕ) (u v : Tree) (a b : ℕ) {e : Bool} (mine : eqb a 1 ≡ S u)
    (other : eqb b 1 ≡ S v) (same : e ≡ beq (eqb a 1) (eqb b 1)) where
  class-both : e ≡ beq (S u) (S v)
  class-both = same ∙ ap₂ beq mine other

  pub subtree-other : e ≡ false → false ≡ named_like_subtree t S N u v
  unfolding named_like_subtree
  subtree-other d = rw (sym class-both, d)

  pub subtree-first : {r : Bool} → e ≡ true → r ≡ every (agree N u v) (frames_of t u) → r ≡ false →
      false ≡ named_like_subtree t S N u v
  unfolding named_like_subtree
  subtree-first d f z = rw (sym class-both, d, sym (every-joined (agree N u v) (frames_of t u) (frames_of t v)), sym f, z)

  pub subtree-named : {r s : Bool} → e ≡ true → r ≡ every (agree N u v) (frames_of t u) → r ≡ true →
      s ≡ every (agree N u v) (frames_of t v) → s ≡ named_like_subtree t S N u v
  unfolding named_like_subtree
  subtree-named d f z g = rw (sym class-both, d, sym (every-joined (agree N u v) (frames_of t u) (frames_of t v)), sym f, z) g

-- ---- the criterion

module _ (A : Automaton) (t : Tree) (S : Tree → Bool) (N : Tree → ℕ) (u : Tree) where
  pub like-state-parts : (q : ℕ) →
      (named_like_state A t S N u q && uses_agree A t (frames_of t u) (run A u) q) ≡ like_state A t S N u q
  unfolding like_state named_like_state
  like-state-parts q = refl

  pub like-subtree-parts : (v : Tree) →
      (named_like_subtree t S N u v && uses_agree A t (frames_of t u ++ frames_of t v) (run A u) (run A v)) ≡
      like_subtree A t S N u v
  unfolding like_subtree named_like_subtree
  like-subtree-parts v = refl

-- if the first part fails the result is false, else it is that of the second
pub first-fails : (y : Bool) {b x z : Bool} → b ≡ x → (x && y) ≡ z → b ≡ false → false ≡ z
first-fails y e d h = ap (λ c. c && y) (sym h ∙ e) ∙ d

pub second-decides : {b x y z r : Bool} → b ≡ x → (x && y) ≡ z → b ≡ true → r ≡ y → r ≡ z
second-decides {b} {x} {y} {z} e d h f = f ∙ ap (λ c. c && y) (sym h ∙ e) ∙ d

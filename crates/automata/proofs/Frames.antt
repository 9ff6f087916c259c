-- The frames in which a tree stands: those that make a subtree when it is put in.
use mathlib.Core.Bool.{Bool, ◌&&◌, cond, false, true, true≢false}
use mathlib.Core.List.{List, [], ◌∷◌, map}
use mathlib.Core.Logic.{inl, inr}
use mathlib.Core.Path.{◌∙◌, ◌≡◌, ap, refl, subst, sym}
use Prim.Native.Nat.{ℕ}
use lib.Dec.{eqb}
use borrow.Author.Tests.{eqb-true}
use Rattle.automata.specs.Alike.{distinct_frames, eq_frame, eq_slot, frames_of, gaps, node_frames, push_tree}
use Rattle.automata.specs.Automaton.{Automaton, run}
use Rattle.automata.specs.Change.{subtrees}
use Rattle.automata.specs.ContextRun.{step_frame}
use Rattle.automata.specs.Distinguishable.{Slot}
use Rattle.automata.specs.Names.{is_subtree}
use Rattle.lists.specs.Closure.{elem}
use Rattle.lists.specs.Tests.{Distinct, ◌∈◌, same_list}
use Rattle.trees.specs.Context.{Frame, fill}
use Rattle.trees.specs.Tree.{AllTrees, Forest, Tree, ◌⧺◌, cons, eq_forest, eq_tree, nil, node}
use Rattle.automata.proofs.Names.{subtree-in}
use Rattle.automata.proofs.Change.{subtrees-closed}
use Rattle.automata.proofs.Nodes.{concat_map-in, in-concat_map}
use Rattle.automata.proofs.Steps.{run-fill}
use Rattle.lists.proofs.Closure.{elem_in, in-elem}
use Rattle.lists.proofs.Tests.{and_both, and_left, and_right, eqb_same, in_map, map-in, same_list-refl, same_list-true}
use Rattle.trees.proofs.Trees.{eq_forest-true, eq_tree-same, eq_tree-true}

-- ---- subtrees

pub not-subtree : (t u : Tree) → (u ∈ subtrees t → ⊥) → is_subtree t u ≡ false
not-subtree t u h = go (is_subtree t u) refl
  where
    go : (b : Bool) → is_subtree t u ≡ b → is_subtree t u ≡ false
    go true e = absurd (h (subtree-in t u e))
    go false e = e

-- ---- the frames of a node

gaps-in : (g : Forest) (a : ℕ) (u : Tree) (f : Frame) → f ∈ gaps a g u → fill f u ≡ node a g
gaps-in nil a u f i = absurd i
gaps-in (cons v g) a u f i = go (λ h. gaps-in g a u h) (eq_tree u v) refl i
  where
    later : ((h : Frame) → h ∈ gaps a g u → fill h u ≡ node a g) → f ∈ map (push_tree v) (gaps a g u) →
        fill f u ≡ node a (cons v g)
    later ih j =
        let (h, k, e) = map-in (push_tree v) (gaps a g u) f j in
        ap (λ (x : Frame). fill x u) e ∙ moved h (ih h k)
      where
        moved : (h : Frame) → fill h u ≡ node a g → fill (push_tree v h) u ≡ node a (cons v g)
        moved h d = cc

    go : ((h : Frame) → h ∈ gaps a g u → fill h u ≡ node a g) → (b : Bool) → eq_tree u v ≡ b →
        f ∈ cond b (record { label = a; before = nil; after = g } ∷ map (push_tree v) (gaps a g u))
        (map (push_tree v) (gaps a g u)) → fill f u ≡ node a (cons v g)
    go ih true e (inl d) = ap (λ (x : Frame). fill x u) d ∙ ap (λ (x : Tree). node a (cons x g)) (eq_tree-true u v e)
    go ih true e (inr j) = later ih j
    go ih false e j = later ih j

in-gaps : (b : Forest) (a : ℕ) (u : Tree) (c : Forest) →
    ◌∈◌ {A = Frame} (record { label = a; before = b; after = c }) (gaps a (b ⧺ cons u c) u)
in-gaps nil a u c = rw (eq_tree-same u) (inl refl)
in-gaps (cons v b) a u c = go (in-gaps b a u c) (eq_tree u v)
  where
    go : ◌∈◌ {A = Frame} (record { label = a; before = b; after = c }) (gaps a (b ⧺ cons u c) u) → (d : Bool) →
        ◌∈◌ {A = Frame} (record { label = a; before = cons v b; after = c })
        (cond d (record { label = a; before = nil; after = b ⧺ cons u c } ∷
        map (push_tree v) (gaps a (b ⧺ cons u c) u)) (map (push_tree v) (gaps a (b ⧺ cons u c) u)))
    go ih true =
        inr (in_map (push_tree v) (gaps a (b ⧺ cons u c) u) (record { label = a; before = b; after = c }) ih)
    go ih false = in_map (push_tree v) (gaps a (b ⧺ cons u c) u) (record { label = a; before = b; after = c }) ih

module _ (t u : Tree) where
  pub frames-fill : (f : Frame) → f ∈ frames_of t u → fill f u ∈ subtrees t
  unfolding frames_of
  frames-fill f i = let (p, j, k) = concat_map-in (node_frames u) (subtrees t) f i in go p j k
    where
      go : (p : Tree) → p ∈ subtrees t → f ∈ node_frames u p → fill f u ∈ subtrees t
      go (node a g) j k = subst (λ (x : Tree). x ∈ subtrees t) (sym (gaps-in g a u f k)) j

  pub fill-frames : (f : Frame) → fill f u ∈ subtrees t → f ∈ frames_of t u
  unfolding frames_of
  fill-frames f i =
      in-concat_map (node_frames u) (subtrees t) (fill f u) f i (in-gaps f.before f.label u f.after)

  -- a tree that no frame makes a subtree has its state as its name
  pub outside-name : (A : Automaton) (N : Tree → ℕ) → ((v : Tree) → is_subtree t v ≡ false → N v ≡ run A v) →
      (f : Frame) → (f ∈ frames_of t u → ⊥) → N (fill f u) ≡ step_frame A f (run A u)
  outside-name A N others f h =
      others (fill f u) (not-subtree t (fill f u) (λ i. h (fill-frames f i))) ∙ run-fill A f u

  -- the siblings in a frame are subtrees
  pub frame-siblings : (f : Frame) → f ∈ frames_of t u → AllTrees (λ v. v ∈ subtrees t) (f.before ⧺ f.after)
  frame-siblings f i =
      without f.before (subtrees-closed t f.label (f.before ⧺ cons u f.after) (frames-fill f i))
    where
      without : (b : Forest) → AllTrees (λ v. v ∈ subtrees t) (b ⧺ cons u f.after) →
          AllTrees (λ v. v ∈ subtrees t) (b ⧺ f.after)
      without nil h = h.1
      without (cons v b) h = (h.0, without b h.1)

-- ---- equality of frames and of slots

eq_forest-same : (f : Forest) → eq_forest f f ≡ true
eq_forest-same f = eq_tree-same (node 0 f)

and-three : (a b c : Bool) → (a && b && c) ≡ true → (a ≡ true) × (b ≡ true) × (c ≡ true)
and-three a b c e =
    let r = and_left (a && b) c e in (and_left a b r, and_right a b r, and_right (a && b) c e)

pub eq_frame-true : (f g : Frame) → eq_frame f g ≡ true → f ≡ g
eq_frame-true f g e =
    let (p, q, r) = and-three (eqb f.label g.label) (eq_forest f.before g.before) _ e in
    let l = eqb-true f.label g.label p in
    let b = eq_forest-true f.before g.before q in
    let c = eq_forest-true f.after g.after r in
    λ i. record { label = l i; before = b i; after = c i }

pub eq_frame-same : (f : Frame) → eq_frame f f ≡ true
eq_frame-same f = and_both (and_both (eqb_same f.label) (eq_forest-same f.before)) (eq_forest-same f.after)

pub eq_slot-true : (π ρ : Slot) → eq_slot π ρ ≡ true → π ≡ ρ
eq_slot-true π ρ e =
    let (p, q, r) = and-three (eqb π.label ρ.label) (same_list π.before ρ.before) _ e in
    let l = eqb-true π.label ρ.label p in
    let b = same_list-true π.before ρ.before q in
    let c = same_list-true π.after ρ.after r in
    λ i. record { label = l i; before = b i; after = c i }

pub eq_slot-same : (π : Slot) → eq_slot π π ≡ true
eq_slot-same π = and_both (and_both (eqb_same π.label) (same_list-refl π.before)) (same_list-refl π.after)

-- ---- each frame once

pub once-distinct : (F : List Frame) → Distinct (distinct_frames F)
once-distinct [] = tt
once-distinct (f ∷ F) = go (once-distinct F) (elem eq_frame f (distinct_frames F)) refl
  where
    go : Distinct (distinct_frames F) → (b : Bool) → elem eq_frame f (distinct_frames F) ≡ b →
        Distinct (cond b (distinct_frames F) (f ∷ distinct_frames F))
    go ih true e = ih
    go ih false e = (λ i. true≢false (sym (in-elem eq_frame eq_frame-true eq_frame-same f (distinct_frames F) i) ∙ e), ih)

pub once-in : (F : List Frame) (g : Frame) → g ∈ distinct_frames F → g ∈ F
once-in [] g i = elim i [ ]
once-in (f ∷ F) g i = go (λ j. once-in F g j) (elem eq_frame f (distinct_frames F)) i
  where
    go : (g ∈ distinct_frames F → g ∈ F) → (b : Bool) → g ∈ cond b (distinct_frames F) (f ∷ distinct_frames F) →
        g ∈ (f ∷ F)
    go ih true j = inr (ih j)
    go ih false (inl e) = inl e
    go ih false (inr j) = inr (ih j)

pub in-once : (F : List Frame) (g : Frame) → g ∈ F → g ∈ distinct_frames F
in-once [] g x' = elim x' [ ]
in-once (f ∷ F) g (inl e) = go (elem eq_frame f (distinct_frames F)) refl
  where
    go : (b : Bool) → elem eq_frame f (distinct_frames F) ≡ b → g ∈ cond b (distinct_frames F) (f ∷ distinct_frames F)
    go true d =
        subst (λ (x : Frame). x ∈ distinct_frames F) (sym e)
        (elem_in eq_frame eq_frame-true eq_frame-same f (distinct_frames F) d)
    go false d = inl e
in-once (f ∷ F) g (inr i) = go (in-once F g i) (elem eq_frame f (distinct_frames F))
  where
    go : g ∈ distinct_frames F → (b : Bool) → g ∈ cond b (distinct_frames F) (f ∷ distinct_frames F)
    go ih true = ih
    go ih false = inr ih

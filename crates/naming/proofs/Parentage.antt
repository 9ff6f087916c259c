-- Subtrees by number: a child is a tree in a frame of its parent, and its number is below the parent's.
use mathlib.Core.Bool.{Bool, false, true}
use mathlib.Core.List.{List}
use mathlib.Core.Path.{◌∙◌, ◌≡◌, ap, refl, sym}
use Prim.Native.Nat.{◌+◌, ◌-◌, ◌<◌, ◌≤◌, suc, zero, ℕ}
use native.Mathlib.Omega.{arith}
use lib.ListN.{get_or}
use borrow.Author.Tests.{eqb-true}
use Rattle.automata.specs.Automaton.{Automaton, Fits, states}
use Rattle.automata.specs.Change.{subtree_number, subtrees}
use Rattle.lists.specs.Positions.{up_from}
use Rattle.lists.specs.Tests.{◌∈◌}
use Rattle.subtrees.specs.Frames.{frame_at}
use Rattle.subtrees.specs.Store.{child_at, tree_numbered}
use Rattle.trees.specs.Context.{Frame, fill}
use Rattle.trees.specs.Tree.{Forest, Tree, ◌⧺◌, cons, eq_tree, nil, no_tree}
use Rattle.alike.specs.Known.{Holds}
use Rattle.naming.specs.Parents.{child_is, is_child}
use Rattle.automata.proofs.Distinguishable.{run_fits}
use Rattle.lists.proofs.Intervals.{get_d-in, in-get_d}
use Rattle.lists.proofs.Positions.{position_at, position-pos, up_from-in}
use Rattle.lists.proofs.Tests.{any-in}
use Rattle.subtrees.proofs.Frames.{fill-own, frame-placed}
use Rattle.subtrees.proofs.Numbers.{distinct-index}
use Rattle.trees.proofs.Trees.{cons-tree, eq_tree-same, eq_tree-true, node-children}

-- a test that cannot pass
pub refuted : (b : Bool) → (b ≡ true → ⊥) → b ≡ false
refuted true h = absurd (h refl)
refuted false h = refl

-- filling a frame is injective
before_same : (b : Forest) (u v : Tree) (c : Forest) → b ⧺ cons u c ≡ b ⧺ cons v c → u ≡ v
before_same nil u v c e = cons-tree _ _ _ _ e
before_same (cons w b) u v c e = before_same b u v c (cc)

pub fill-same : (f : Frame) (u v : Tree) → fill f u ≡ fill f v → u ≡ v
fill-same f u v e = before_same f.before u v f.after (node-children _ _ _ _ e)

module _ {A : Automaton} {t : Tree} {ts : List Tree} {m : ℕ} {l r c q : List ℕ} (h : Holds A t ts m l r c q) where
  -- numbers and subtrees
  pub number_in : (x : ℕ) → 1 ≤ x → x ≤ m → tree_numbered ts x ∈ subtrees t
  number_in x a b = h.subtree (tree_numbered ts x) (get_d-in ts (x - 1) no_tree (omega (arith, h.stored.size)))

  pub in-number : (u : Tree) → u ∈ subtrees t → (x : ℕ) × (1 ≤ x) × (x ≤ m) × (tree_numbered ts x ≡ u)
  in-number u i =
      let (k, b, e) = in-get_d ts u no_tree (h.every-subtree u i) in
      let z : k + 1 - 1 ≡ k = omega arith in
      (k + 1, omega arith, omega (arith, h.stored.size), rw z (sym e))

  pub number_same : (x y : ℕ) → 1 ≤ x → x ≤ m → 1 ≤ y → y ≤ m → tree_numbered ts x ≡ tree_numbered ts y → x ≡ y
  number_same x y a b a' b' e =
      omega (
        arith,
        distinct-index ts h.stored.distinct (x - 1) (y - 1) (omega (arith, h.stored.size))
            (omega (arith, h.stored.size)) e,
      )

  -- the number of a subtree is its place in the list
  pub number-place : (x : ℕ) → 1 ≤ x → x ≤ m → subtree_number ts (tree_numbered ts x) ≡ x
  number-place x a b =
      go (subtree_number ts (tree_numbered ts x)) refl
      (position-pos eq_tree eq_tree-true eq_tree-same ts (tree_numbered ts x)
      (get_d-in ts (x - 1) no_tree (omega (arith, h.stored.size))))
    where
      go : (p : ℕ) → subtree_number ts (tree_numbered ts x) ≡ p → 1 ≤ p → subtree_number ts (tree_numbered ts x) ≡ x
      go zero e s = absurd (omega arith)
      go (suc i) e s =
          let (u, v) = position_at eq_tree eq_tree-true eq_tree-same ts (tree_numbered ts x) no_tree i e in
          omega (
            arith,
            e,
            distinct-index ts h.stored.distinct i (x - 1) u (omega (arith, h.stored.size)) v,
          )

  -- a subtree runs to one of the states, or to none
  pub state-most : Fits A → (x : ℕ) → 1 ≤ x → x ≤ m → get_or q (x - 1) 0 ≤ states A
  state-most fit x a b = omega (arith, h.stored.state (x - 1) (omega arith), run_fits A fit (tree_numbered ts x))

  -- a child stands in a frame of its parent
  pub child-frame : (i j : ℕ) → 1 ≤ i → i ≤ m → is_child r c i j ≡ true →
      (f : Frame) × (fill f (tree_numbered ts j) ≡ tree_numbered ts i)
  unfolding is_child
  child-frame i j a b e =
      let (k, w, d) = any-in (child_is c i j) (up_from 0 (get_or r (i - 1) 0)) e in
      let (_, s) = up_from-in 0 (get_or r (i - 1) 0) k w in
      let f = frame_at ts l r c (i - 1) k in (
        f,
        ap (λ x. fill f (tree_numbered ts x)) (sym (eqb-true (child_at c (i - 1) k) j d)) ∙
            fill-own h.stored (i - 1) k (omega arith) (omega arith),
      )

  -- a subtree in a frame has a number below that of the whole
  pub frame-above : (f : Frame) (x y : ℕ) → 1 ≤ x → x ≤ m → 1 ≤ y → y ≤ m →
      fill f (tree_numbered ts y) ≡ tree_numbered ts x → y < x
  frame-above f x y a b a' b' e =
      let z = h.stored in
      let w = frame-placed z f y a' b' (rw e (get_d-in ts (x - 1) no_tree (omega (arith, z.size)))) in
      let same = ap (λ g. fill g (tree_numbered ts y)) w.frame
      ∙ ap (λ v. fill (frame_at ts l r c w.parent w.place) (tree_numbered ts v)) (sym w.child)
      ∙ fill-own z w.parent w.place w.stored w.inside in
      omega (
        arith,
        w.child,
        w.stored,
        z.child-before w.parent w.place w.stored w.inside,
        distinct-index ts z.distinct w.parent (x - 1) (omega (arith, w.stored, z.size))
            (omega (arith, z.size)) (sym same ∙ e),
      )

-- The frames of a stored tree are the places at which parents have it as a child.
use mathlib.Core.Bool.{Bool, ◌||◌, false, not, true}
use mathlib.Core.List.{List, [], ◌++◌, ◌∷◌}
use mathlib.Core.Path.{◌∙◌, ◌≡◌, ap, ap₂, refl, subst, sym}
use Prim.Native.Nat.{◌-◌, ◌<◌, ◌≤◌, suc, ℕ}
use native.Mathlib.Nat.{zero-add}
use native.Mathlib.Omega.{arith}
use lib.Dec.{eqb}
use lib.ListN.{drop, get_or, length, set, take}
use lib.Seq.{set-get_or, set_split}
use borrow.Author.Tests.{eq-eqb, eqb-true}
use Rattle.automata.specs.Alike.{frames_of}
use Rattle.automata.specs.Automaton.{Automaton}
use Rattle.automata.specs.Change.{subtrees}
use Rattle.lists.specs.Positions.{up_from}
use Rattle.lists.specs.Tests.{◌∈◌, every}
use Rattle.subtrees.specs.Frames.{frame_at}
use Rattle.subtrees.specs.Store.{Stored, child_at, child_numbers, tree_numbered, trees_numbered}
use Rattle.trees.specs.Context.{Frame, fill}
use Rattle.trees.specs.Tree.{Forest, Tree, ◌⧺◌, cons, count, nil, no_tree, node}
use Rattle.automata.proofs.Frames.{fill-frames, frames-fill}
use Rattle.lists.proofs.Intervals.{at_every, every-at, get_d-in, get_d-tabulated, in-get_d, length-tabulated}
use Rattle.lists.proofs.Tests.{every_in, in-every, same_test}
use Rattle.subtrees.proofs.Numbers.{distinct-index}
use Rattle.trees.proofs.Trees.{cons-forest, cons-tree, node-children, node-label}

-- ---- forests by number

pub numbered-joined : (ts : List Tree) (ns ms : List ℕ) →
    trees_numbered ts (ns ++ ms) ≡ trees_numbered ts ns ⧺ trees_numbered ts ms
numbered-joined ts [] ms = refl
numbered-joined ts (n ∷ ns) ms = ap (cons (tree_numbered ts n)) (numbered-joined ts ns ms)

-- a forest by number, split at a tree
record Around (ts : List Tree) (ns : List ℕ) (F : Forest) (u : Tree) (G : Forest) : Type 0 where
  pub inside : count F < length ns
  pub before : F ≡ trees_numbered ts (take (count F) ns)
  pub here : u ≡ tree_numbered ts (get_or ns (count F) 0)
  pub after : G ≡ trees_numbered ts (drop (suc (count F)) ns)

around : (F : Forest) (ts : List Tree) (ns : List ℕ) (u : Tree) (G : Forest) → trees_numbered ts ns ≡ F ⧺ cons u G →
    Around ts ns F u G
around nil ts [] u G e = let z : ◌≡◌ {A = ℕ} 0 1 = cc in absurd (omega arith)
around nil ts (n ∷ ns) u G e = record {
  inside = omega arith;
  before = refl;
  here = sym (cons-tree _ _ _ _ e);
  after = sym (cons-forest _ _ _ _ e);
}
around (cons v F) ts [] u G e = let z : ◌≡◌ {A = ℕ} 0 1 = cc in absurd (omega arith)
around (cons v F) ts (n ∷ ns) u G e =
    let a = around F ts ns u G (cons-forest _ _ _ _ e) in
    record {
      inside = omega (arith, a.inside);
      before = ap₂ cons (sym (cons-tree _ _ _ _ e)) a.before;
      here = a.here;
      after = a.after;
    }

-- ---- a parent and a place

module _ {A : Automaton} {ts : List Tree} {n : ℕ} {l r c q : List ℕ} (st : Stored A ts n l r c q) where
  pub child-numbers : (i k : ℕ) → k < get_or r i 0 → get_or (child_numbers r c i) k 0 ≡ child_at c i k
  child-numbers i k h =
      get_d-tabulated (child_at c i) 0 (get_or r i 0) k 0 h ∙ ap (child_at c i) (zero-add k)

  -- a frame with another child in its gap
  pub fill-at : (i k x : ℕ) → k < get_or r i 0 →
      fill (frame_at ts l r c i k) (tree_numbered ts x) ≡ node (get_or l i 0) (trees_numbered ts (set (child_numbers r c i) k x))
  fill-at i k x h =
      let ns = child_numbers r c i in
      ap (node (get_or l i 0)) (sym (ap (trees_numbered ts)
      (set_split ns k x (omega (arith, length-tabulated (child_at c i) 0 (get_or r i 0))))
      ∙ numbered-joined ts (take k ns) (x ∷ drop (suc k) ns)))

  -- a frame with its own child in its gap is the parent
  pub fill-own : (i k : ℕ) → i < n → k < get_or r i 0 →
      fill (frame_at ts l r c i k) (tree_numbered ts (child_at c i k)) ≡ get_or ts i no_tree
  fill-own i k b h =
      let ns = child_numbers r c i in
      fill-at i k (child_at c i k) h
      ∙ ap (λ x. node (get_or l i 0) (trees_numbered ts (set ns k x))) (sym (child-numbers i k h))
      ∙ ap (λ xs. node (get_or l i 0) (trees_numbered ts xs)) (set-get_or ns k 0)
      ∙ sym (st.tree i b)

  -- a frame over the tree with number j that makes a stored tree
  pub record Placed (f : Frame) (j : ℕ) : Type 0 where
    pub parent : ℕ
    pub place : ℕ
    pub stored : parent < n
    pub inside : place < get_or r parent 0
    pub child : child_at c parent place ≡ j
    pub frame : f ≡ frame_at ts l r c parent place

  pub frame-placed : (f : Frame) (j : ℕ) → 1 ≤ j → j ≤ n → fill f (tree_numbered ts j) ∈ ts → Placed f j
  frame-placed f j a b m =
      let (i, h, e) = in-get_d ts (fill f (tree_numbered ts j)) no_tree m in
      go i (omega (arith, st.size)) (sym (st.tree i (omega (arith, st.size))) ∙ sym e)
    where
      go : (i : ℕ) → i < n →
          node (get_or l i 0) (trees_numbered ts (child_numbers r c i)) ≡ fill f (tree_numbered ts j) → Placed f j
      go i h e =
          let ns = child_numbers r c i in
          let w = around f.before ts ns (tree_numbered ts j) f.after (node-children _ _ _ _ e) in
          let k = count f.before in
          let inside : k < get_or r i 0 =
          omega (arith, w.inside, length-tabulated (child_at c i) 0 (get_or r i 0)) in
          let number = child-numbers i k inside in
          let some = st.child-some i k h inside in
          let known = st.child-before i k h inside in
          let same : j - 1 ≡ get_or ns k 0 - 1 =
          distinct-index ts st.distinct (j - 1) (get_or ns k 0 - 1) (omega (arith, st.size))
          (omega (arith, st.size)) w.here in
          record {
            parent = i;
            place = k;
            stored = h;
            inside = inside;
            child = omega arith;
            frame = λ z. record { label = node-label _ _ _ _ (sym e) z; before = w.before z; after = w.after z };
          }

  module _ (t : Tree) (to : (x : Tree) → x ∈ ts → x ∈ subtrees t) (from : (x : Tree) → x ∈ subtrees t → x ∈ ts) where
    pub frames-placed : (f : Frame) (j : ℕ) → 1 ≤ j → j ≤ n → f ∈ frames_of t (tree_numbered ts j) → Placed f j
    frames-placed f j a b m =
        frame-placed f j a b (from (fill f (tree_numbered ts j)) (frames-fill t (tree_numbered ts j) f m))

    pub placed-frames : (i k j : ℕ) → i < n → k < get_or r i 0 → child_at c i k ≡ j →
        frame_at ts l r c i k ∈ frames_of t (tree_numbered ts j)
    placed-frames i k j b h e =
        let f = frame_at ts l r c i k in
        fill-frames t (tree_numbered ts j) f (to (fill f (tree_numbered ts j))
        (subst (λ (x : Tree). x ∈ ts)
        (sym (fill-own i k b h) ∙ ap (λ x. fill f (tree_numbered ts x)) e)
        (get_d-in ts i no_tree (omega (arith, st.size)))))

    -- a test of every frame over the tree with number j, by parents and places
    pub every-frame : (p : Frame → Bool) (p' : ℕ → ℕ → Bool) (j : ℕ) → 1 ≤ j → j ≤ n →
        ((i k : ℕ) → i < n → k < get_or r i 0 → child_at c i k ≡ j → p' i k ≡ p (frame_at ts l r c i k)) →
        every (λ i. every (λ k. not (eqb (child_at c i k) j) || p' i k) (up_from 0 (get_or r i 0))) (up_from 0 n) ≡
        every p (frames_of t (tree_numbered ts j))
    every-frame p p' j a b same =
        same_test (every (λ i. every (λ k. not (eqb (child_at c i k) j) || p' i k) (up_from 0 (get_or r i 0))) (up_from 0 n))
        (every p (frames_of t (tree_numbered ts j)))
        (λ e. in-every p (frames_of t (tree_numbered ts j)) (λ f m. passed e (frames-placed f j a b m)))
        (λ e. at_every (λ i. every (λ k. not (eqb (child_at c i k) j) || p' i k) (up_from 0 (get_or r i 0))) 0 n (λ i _ h.
        at_every (λ k. not (eqb (child_at c i k) j) || p' i k) 0 (get_or r i 0) (λ k _ g.
        one e i k (omega arith) (omega arith) (eqb (child_at c i k) j) refl)))
      where
        passed : every (λ i. every (λ k. not (eqb (child_at c i k) j) || p' i k) (up_from 0 (get_or r i 0))) (up_from 0 n)
            ≡ true → {f : Frame} → Placed f j → p f ≡ true
        passed e {f} w =
            let i = w.parent in
            let k = w.place in
            let at = every-at (λ k. not (eqb (child_at c i k) j) || p' i k) 0 (get_or r i 0)
            (every-at (λ i. every (λ k. not (eqb (child_at c i k) j) || p' i k) (up_from 0 (get_or r i 0))) 0 n e i
            (omega arith) (omega (arith, w.stored))) k (omega arith) (omega (arith, w.inside)) in
            ap p w.frame ∙ sym (same i k w.stored w.inside w.child)
            ∙ (rw (eq-eqb (child_at c i k) j w.child) at at)

        one : every p (frames_of t (tree_numbered ts j)) ≡ true → (i k : ℕ) → i < n → k < get_or r i 0 → (d : Bool) →
            eqb (child_at c i k) j ≡ d → (not d || p' i k) ≡ true
        one e i k h g true d =
            let z = eqb-true (child_at c i k) j d in
            same i k h g z ∙ every_in p (frames_of t (tree_numbered ts j)) e (frame_at ts l r c i k) (placed-frames i k j h g z)
        one e i k h g false d = refl

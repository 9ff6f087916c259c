-- The frame at a place of a node that the arrays hold, its slot, and which nodes have the same one.
use mathlib.Core.Bool.{Bool, ◌&&◌, ◌||◌, false, true}
use mathlib.Core.List.{List, [], ◌++◌, ◌∷◌, map}
use mathlib.Core.Logic.{◌⊎◌, inl, inr}
use mathlib.Core.Path.{◌∙◌, ◌≡◌, ap, ap₂, refl, sym}
use Prim.Native.Nat.{◌+◌, ◌-◌, ◌<◌, ◌≤◌, suc, zero, ℕ}
use native.Mathlib.Omega.{arith}
use lib.Dec.{eqb, ltb}
use lib.ListN.{get_or, length}
use borrow.Author.Tests.{eq-eqb, eqb-false, eqb-true, ltb-false, ltb-true}
use Rattle.automata.specs.Alike.{state_slot}
use Rattle.automata.specs.Automaton.{Automaton, run, runs}
use Rattle.automata.specs.Distinguishable.{Slot}
use Rattle.sorted.specs.Steps.{slot_at}
use Rattle.lists.specs.Positions.{up_from}
use Rattle.lists.specs.Tests.{every}
use Rattle.subtrees.specs.Store.{Stored, child_at, child_numbers, tree_numbered, trees_numbered}
use Rattle.table.specs.Layout.{arg_of, arity_of, label_of}
use Rattle.trees.specs.Context.{Frame, fill}
use Rattle.trees.specs.Tree.{Tree, ◌⧺◌, cons, no_tree, node}
use Rattle.uses.specs.Frames.{in_slot, same_child, same_sibling, twin}
use Rattle.sorted.proofs.Slots.{split-up_from}
use Rattle.fields.proofs.Entries.{map-up_from}
use Rattle.lists.proofs.Intervals.{at_every, every-at, get_d-tabulated, length-tabulated}
use Rattle.lists.proofs.Tests.{and_both, and_left, and_right, or_cases, or_left, or_right}
use Rattle.subtrees.proofs.Numbers.{Among, numbered-inj}

-- ---- numbers by place

around : (f : ℕ → ℕ) (k n : ℕ) → k < n →
    map f (up_from 0 n) ≡ map f (up_from 0 k) ++ (f k ∷ map f (up_from (k + 1) (n - (k + 1))))
around f k n h = let a : 0 + k ≡ k = omega arith in let e = split-up_from f 0 k n h in rw a at e

at_place : (f g : ℕ → ℕ) (d n : ℕ) → map f (up_from d n) ≡ map g (up_from d n) → (x : ℕ) → d ≤ x → x < d + n → f x ≡ g x
at_place f g d n h x a b =
    let e : d + (x - d) ≡ x = omega arith in
    ap f (sym e) ∙ sym (get_d-tabulated f d n (x - d) 0 (omega arith)) ∙ ap (λ (ys : List ℕ). get_or ys (x - d) 0) h
    ∙ get_d-tabulated g d n (x - d) 0 (omega arith) ∙ ap g e

among-places : (m : ℕ) (f : ℕ → ℕ) (d n : ℕ) → ((x : ℕ) → d ≤ x → x < d + n → (1 ≤ f x) × (f x ≤ m)) →
    Among m (map f (up_from d n))
among-places m f d zero h = tt
among-places m f d (suc n) h =
    (h d (omega arith) (omega arith), among-places m f (suc d) n (λ x a b. h x (omega arith) (omega arith)))

numbered-plus : (ts : List Tree) (xs ys : List ℕ) → trees_numbered ts (xs ++ ys) ≡ trees_numbered ts xs ⧺ trees_numbered ts ys
numbered-plus ts [] ys = refl
numbered-plus ts (x ∷ xs) ys = ap (cons (tree_numbered ts x)) (numbered-plus ts xs ys)

runs-places : (A : Automaton) (ts : List Tree) (f g : ℕ → ℕ) (d n : ℕ) →
    ((x : ℕ) → d ≤ x → x < d + n → run A (tree_numbered ts (f x)) ≡ g x) →
    runs A (trees_numbered ts (map f (up_from d n))) ≡ map g (up_from d n)
runs-places A ts f g d zero h = refl
runs-places A ts f g d (suc n) h =
    ap₂ (λ (y : ℕ) (ys : List ℕ). y ∷ ys) (h d (omega arith) (omega arith))
    (runs-places A ts f g (suc d) n (λ x a b. h x (omega arith) (omega arith)))

-- ---- frames

-- node i with child k left out
abbrev pub frame_at : List Tree → List ℕ → List ℕ → List ℕ → ℕ → ℕ → Frame
frame_at ts l r c k i = record {
  label = get_or l i 0;
  before = trees_numbered ts (map (child_at c i) (up_from 0 k));
  after = trees_numbered ts (map (child_at c i) (up_from (k + 1) (get_or r i 0 - (k + 1))));
}

module _ {A : Automaton} {ts : List Tree} {m : ℕ} {l r c q : List ℕ} (st : Stored A ts m l r c q) (k : ℕ) where
  abbrev frame : ℕ → Frame
  frame = frame_at ts l r c k

  pub children-around : (i : ℕ) → k < get_or r i 0 → trees_numbered ts (child_numbers r c i) ≡
      (frame i).before ⧺ cons (tree_numbered ts (child_at c i k)) (frame i).after
  children-around i d =
      ap (trees_numbered ts) (around (child_at c i) k (get_or r i 0) d)
      ∙ numbered-plus ts (map (child_at c i) (up_from 0 k))
      (child_at c i k ∷ map (child_at c i) (up_from (k + 1) (get_or r i 0 - (k + 1))))

  pub fill-at : (i : ℕ) → i < m → k < get_or r i 0 →
      fill (frame i) (tree_numbered ts (child_at c i k)) ≡ get_or ts i no_tree
  fill-at i b d = sym (st.tree i b ∙ ap (node (get_or l i 0)) (children-around i d))

  child-state : (i x : ℕ) → i < m → x < get_or r i 0 →
      run A (tree_numbered ts (child_at c i x)) ≡ get_or q (child_at c i x - 1) 0
  child-state i x b d =
      sym (st.state (child_at c i x - 1) (omega (arith, st.child-some i x b d, st.child-before i x b d)))

  -- ---- the slot of a frame

  module _ (s : List ℕ) (at i : ℕ) (b : i < m) (small : k < arity_of s at) where
    abbrev state : ℕ → ℕ
    state x = get_or q (child_at c i x - 1) 0

    pub slot_of : in_slot s at k l r c q i ≡ true →
        (get_or r i 0 ≡ arity_of s at) × (state_slot A (frame i) ≡ slot_at s at k)
    unfolding in_slot
    slot_of e = (ar, λ z. record { label = label z; before = front z; after = rear z })
      where
        label : get_or l i 0 ≡ label_of s at
        label = eqb-true _ _ (and_left (eqb (get_or l i 0) (label_of s at)) _ e)

        rest : (eqb (get_or r i 0) (arity_of s at) && every (same_sibling s at k c q i) (up_from 0 (arity_of s at))) ≡ true
        rest = and_right (eqb (get_or l i 0) (label_of s at)) _ e

        ar : get_or r i 0 ≡ arity_of s at
        ar = eqb-true _ _ (and_left (eqb (get_or r i 0) (arity_of s at)) _ rest)

        sibling : (x : ℕ) → x < arity_of s at → (x ≡ k → ⊥) → state x ≡ arg_of s at x
        sibling x d n =
            go (or_cases (eqb x k) (eqb (state x) (arg_of s at x))
            (every-at (same_sibling s at k c q i) 0 (arity_of s at)
            (and_right (eqb (get_or r i 0) (arity_of s at)) _ rest) x (omega arith) (omega arith)))
          where
            go : (eqb x k ≡ true) ⊎ (eqb (state x) (arg_of s at x) ≡ true) → state x ≡ arg_of s at x
            go (inl z) = absurd (n (eqb-true x k z))
            go (inr z) = eqb-true _ _ z

        front : runs A (frame i).before ≡ (slot_at s at k).before
        front =
            runs-places A ts (child_at c i) (arg_of s at) 0 k
            (λ x a d. child-state i x b (omega (arith, ar)) ∙ sibling x (omega (arith, ar)) (λ z. omega arith))

        rear : runs A (frame i).after ≡ (slot_at s at k).after
        rear =
            runs-places A ts (child_at c i) (arg_of s at) (k + 1) (get_or r i 0 - (k + 1))
            (λ x a d. child-state i x b (omega (arith, ar)) ∙ sibling x (omega (arith, ar)) (λ z. omega arith))
            ∙ ap (λ (n : ℕ). map (arg_of s at) (up_from (k + 1) (n - (k + 1)))) ar

    pub slot-in : k < get_or r i 0 → state_slot A (frame i) ≡ slot_at s at k → in_slot s at k l r c q i ≡ true
    unfolding in_slot
    slot-in d e =
        and_both (eq-eqb _ _ (ap (λ (π : Slot). π.label) e))
        (and_both (eq-eqb _ _ ar) (at_every (same_sibling s at k c q i) 0 (arity_of s at) (λ x o g. each x (omega arith))))
      where
        front : map state (up_from 0 k) ≡ map (arg_of s at) (up_from 0 k)
        front =
            sym (runs-places A ts (child_at c i) state 0 k (λ x o g. child-state i x b (omega arith)))
            ∙ ap (λ (π : Slot). π.before) e

        rear : map state (up_from (k + 1) (get_or r i 0 - (k + 1))) ≡ (slot_at s at k).after
        rear =
            sym (runs-places A ts (child_at c i) state (k + 1) (get_or r i 0 - (k + 1))
            (λ x o g. child-state i x b (omega arith)))
            ∙ ap (λ (π : Slot). π.after) e

        ar : get_or r i 0 ≡ arity_of s at
        ar =
            omega (
              arith,
              sym (length-tabulated state (k + 1) (get_or r i 0 - (k + 1))) ∙ ap length rear
                  ∙ length-tabulated (arg_of s at) (k + 1) (arity_of s at - (k + 1)),
            )

        each : (x : ℕ) → x < arity_of s at → same_sibling s at k c q i x ≡ true
        each x o = go (eqb x k) (ltb x k) refl refl
          where
            go : (f g : Bool) → eqb x k ≡ f → ltb x k ≡ g → (eqb x k || eqb (state x) (arg_of s at x)) ≡ true
            go true g p z = or_left (eqb x k) _ p
            go false true p z =
                let y = ltb-true x k z in
                or_right (eqb x k) _ (eq-eqb _ _ (at_place state (arg_of s at) 0 k front x (omega arith) (omega arith)))
            go false false p z =
                let y = ltb-false x k z in
                let w = eqb-false x k p in
                let u : k < x = omega arith in
                or_right (eqb x k) _ (eq-eqb _ _ (at_place state (arg_of s at) (k + 1) (arity_of s at - (k + 1))
                (ap (λ (n : ℕ). map state (up_from (k + 1) (n - (k + 1)))) (sym ar) ∙ rear) x (omega arith) (omega arith)))

  -- ---- nodes with the same frame

  module _ (j i h : ℕ) where
    pub twin-frame : twin l r c j k i h ≡ true → k < get_or r i 0 →
        (child_at c h k ≡ j) × (get_or r h 0 ≡ get_or r i 0) × (frame h ≡ frame i)
    unfolding twin
    twin-frame e d = (
      eqb-true _ _ (and_left (eqb (child_at c h k) j) _ e),
      ar,
      λ z. record {
        label = eqb-true (get_or l h 0) (get_or l i 0) (and_left _ _ two) z;
        before = trees_numbered ts (front z);
        after = trees_numbered ts (rear z);
      },
    )
      where
        two : (eqb (get_or l h 0) (get_or l i 0) && (eqb (get_or r h 0) (get_or r i 0) &&
            every (same_child c k i h) (up_from 0 (get_or r i 0)))) ≡ true
        two = and_right (eqb (child_at c h k) j) _ e

        three : (eqb (get_or r h 0) (get_or r i 0) && every (same_child c k i h) (up_from 0 (get_or r i 0))) ≡ true
        three = and_right (eqb (get_or l h 0) (get_or l i 0)) _ two

        ar : get_or r h 0 ≡ get_or r i 0
        ar = eqb-true _ _ (and_left (eqb (get_or r h 0) (get_or r i 0)) _ three)

        same : (x : ℕ) → x < get_or r i 0 → (x ≡ k → ⊥) → child_at c h x ≡ child_at c i x
        same x o n =
            go (or_cases (eqb x k) (eqb (child_at c h x) (child_at c i x))
            (every-at (same_child c k i h) 0 (get_or r i 0) (and_right (eqb (get_or r h 0) (get_or r i 0)) _ three) x
            (omega arith) (omega arith)))
          where
            go : (eqb x k ≡ true) ⊎ (eqb (child_at c h x) (child_at c i x) ≡ true) → child_at c h x ≡ child_at c i x
            go (inl z) = absurd (n (eqb-true x k z))
            go (inr z) = eqb-true _ _ z

        front : map (child_at c h) (up_from 0 k) ≡ map (child_at c i) (up_from 0 k)
        front = map-up_from (child_at c h) (child_at c i) 0 k (λ x o g. same x (omega arith) (λ z. omega arith))

        rear : map (child_at c h) (up_from (k + 1) (get_or r h 0 - (k + 1))) ≡
            map (child_at c i) (up_from (k + 1) (get_or r i 0 - (k + 1)))
        rear =
            ap (λ (n : ℕ). map (child_at c h) (up_from (k + 1) (n - (k + 1)))) ar
            ∙ map-up_from (child_at c h) (child_at c i) (k + 1) (get_or r i 0 - (k + 1))
            (λ x o g. same x (omega arith) (λ z. omega arith))

    pub frame-twin : i < m → h < m → k < get_or r i 0 → k < get_or r h 0 → child_at c h k ≡ j → frame h ≡ frame i →
        twin l r c j k i h ≡ true
    unfolding twin
    frame-twin bi bh di dh first e =
        and_both (eq-eqb _ _ first)
        (and_both (eq-eqb _ _ (ap (λ (f : Frame). f.label) e))
        (and_both (eq-eqb _ _ ar) (at_every (same_child c k i h) 0 (get_or r i 0) (λ x o g. each x (omega arith)))))
      where
        known : (n : ℕ) → n < m → (x : ℕ) → x < get_or r n 0 → (1 ≤ child_at c n x) × (child_at c n x ≤ length ts)
        known n b x d =
            (st.child-some n x b d, omega (arith, st.child-before n x b d, st.size))

        front : map (child_at c h) (up_from 0 k) ≡ map (child_at c i) (up_from 0 k)
        front =
            numbered-inj ts st.distinct (map (child_at c h) (up_from 0 k)) (map (child_at c i) (up_from 0 k))
            (among-places (length ts) (child_at c h) 0 k (λ x o g. known h bh x (omega arith)))
            (among-places (length ts) (child_at c i) 0 k (λ x o g. known i bi x (omega arith)))
            (ap (λ (f : Frame). f.before) e)

        rear : map (child_at c h) (up_from (k + 1) (get_or r h 0 - (k + 1))) ≡
            map (child_at c i) (up_from (k + 1) (get_or r i 0 - (k + 1)))
        rear =
            numbered-inj ts st.distinct (map (child_at c h) (up_from (k + 1) (get_or r h 0 - (k + 1))))
            (map (child_at c i) (up_from (k + 1) (get_or r i 0 - (k + 1))))
            (among-places (length ts) (child_at c h) (k + 1) (get_or r h 0 - (k + 1))
            (λ x o g. known h bh x (omega arith)))
            (among-places (length ts) (child_at c i) (k + 1) (get_or r i 0 - (k + 1))
            (λ x o g. known i bi x (omega arith)))
            (ap (λ (f : Frame). f.after) e)

        ar : get_or r h 0 ≡ get_or r i 0
        ar =
            omega (
              arith,
              sym (length-tabulated (child_at c h) (k + 1) (get_or r h 0 - (k + 1))) ∙ ap length rear
                  ∙ length-tabulated (child_at c i) (k + 1) (get_or r i 0 - (k + 1)),
            )

        each : (x : ℕ) → x < get_or r i 0 → same_child c k i h x ≡ true
        each x o = go (eqb x k) (ltb x k) refl refl
          where
            go : (f g : Bool) → eqb x k ≡ f → ltb x k ≡ g → (eqb x k || eqb (child_at c h x) (child_at c i x)) ≡ true
            go true g p z = or_left (eqb x k) _ p
            go false true p z =
                let y = ltb-true x k z in
                or_right (eqb x k) _
                (eq-eqb _ _ (at_place (child_at c h) (child_at c i) 0 k front x (omega arith) (omega arith)))
            go false false p z =
                let y = ltb-false x k z in
                let w = eqb-false x k p in
                let u : k < x = omega arith in
                or_right (eqb x k) _ (eq-eqb _ _ (at_place (child_at c h) (child_at c i) (k + 1) (get_or r i 0 - (k + 1))
                (ap (λ (n : ℕ). map (child_at c h) (up_from (k + 1) (n - (k + 1)))) (sym ar) ∙ rear) x (omega arith)
                (omega arith)))

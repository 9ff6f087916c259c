-- The arrays show whether a slot is covered: the nodes that are counted correspond one to one to the frames at the
-- slot.
use mathlib.Core.Bool.{Bool, ◌&&◌, false, not, true, true≢false}
use mathlib.Core.List.{List, map}
use mathlib.Core.Logic.{◌⊎◌, inl, inr}
use mathlib.Core.Path.{◌∙◌, ◌≡◌, ap, ap₂, refl, subst, sym}
use Prim.Native.Nat.{◌*◌, ◌+◌, ◌-◌, ◌<◌, ◌≤◌, ℕ}
use native.Mathlib.Omega.{arith}
use lib.Dec.{eqb}
use lib.ListN.{get_or, length, length-map}
use borrow.Author.Tests.{eq-eqb, eqb-true, not-true}
use Rattle.automata.specs.Alike.{covered, distinct_frames, eq_slot, frames_at, frames_of, state_slot}
use Rattle.automata.specs.Automaton.{Automaton}
use Rattle.automata.specs.Change.{subtrees}
use Rattle.automata.specs.Distinguishable.{Slot}
use Rattle.automata.specs.OpenStates.{pairs_of}
use Rattle.sorted.specs.Steps.{slot_at}
use Rattle.fields.specs.Fields.{HoldsTransitionsOver}
use Rattle.format.specs.Format.{transition_bytes}
use Rattle.lists.specs.Positions.{up_from}
use Rattle.lists.specs.Tests.{Distinct, ◌∈◌, any, filter}
use Rattle.subtrees.specs.Store.{child_at, child_numbers, tree_numbered, trees_numbered}
use Rattle.table.specs.Layout.{arg_of, arity_of}
use Rattle.trees.specs.Context.{Frame, fill}
use Rattle.trees.specs.Tree.{Forest, Tree, ◌⧺◌, cons, count, nil, no_tree, node}
use Rattle.uses.specs.Frames.{frame_count, frame_of, framed, twin}
use Rattle.uses.specs.Uses.{FramesOf, Holds, arrays, covered_at}
use Rattle.automata.proofs.Frames.{eq_slot-same, eq_slot-true, fill-frames, frames-fill, in-once, once-distinct, once-in}
use Rattle.automata.proofs.Legal.{runs-count}
use Rattle.lists.proofs.Distinct.{distinct-length, filter-distinct, map-distinct, up_from-distinct}
use Rattle.lists.proofs.Intervals.{get_d-in, in-get_d, length-tabulated}
use Rattle.lists.proofs.Positions.{in-up_from, up_from-in}
use Rattle.lists.proofs.Tests.{and_both, and_left, and_right, any-in, filter-in, in-any, in-filter, in_map, map-in}
use Rattle.lists.proofs.Tests.{or_cases, or_left, or_right}
use Rattle.subtrees.proofs.Numbers.{distinct-index, numbered-count}
use Rattle.trees.proofs.Trees.{cons-forest, cons-tree, node-children, node-label}
use Rattle.uses.proofs.Placing.{children-around, fill-at, frame-twin, frame_at, slot-in, slot_of, twin-frame}
use Rattle.uses.proofs.Weighing.{slot-product}

count-plus : (f g : Forest) → count (f ⧺ g) ≡ count f + count g
count-plus nil g = omega arith
count-plus (cons t f) g = let e = count-plus f g in omega arith

cancel : (f g a b : Forest) → count f ≡ count g → f ⧺ a ≡ g ⧺ b → (f ≡ g) × (a ≡ b)
cancel nil nil a b n e = (refl, e)
cancel nil (cons u g) a b n e = absurd (omega arith)
cancel (cons t f) nil a b n e = absurd (omega arith)
cancel (cons t f) (cons u g) a b n e =
    let p = cancel f g a b (omega arith) (cons-forest _ _ _ _ e) in
    (ap₂ (λ (x : Tree) (y : Forest). cons x y) (cons-tree _ _ _ _ e) p.0, p.1)

-- ---- frames at a slot

module _ (A : Automaton) (π : Slot) (F : List Frame) where
  at_in : (f : Frame) → f ∈ frames_at A π F → (f ∈ F) × (state_slot A f ≡ π)
  unfolding frames_at
  at_in f i =
      let (j, e) = filter-in (λ f. eq_slot (state_slot A f) π) (distinct_frames F) f i in
      (once-in F f j, eq_slot-true (state_slot A f) π e)

  in-at : (f : Frame) → f ∈ F → state_slot A f ≡ π → f ∈ frames_at A π F
  unfolding frames_at
  in-at f i s =
      in-filter (λ f. eq_slot (state_slot A f) π) (distinct_frames F) f (in-once F f i)
      (ap (λ (ρ : Slot). eq_slot ρ π) s ∙ eq_slot-same π)

  at-distinct : Distinct (frames_at A π F)
  unfolding frames_at
  at-distinct = filter-distinct (λ f. eq_slot (state_slot A f) π) (distinct_frames F) (once-distinct F)

module _ {A : Automaton} {t : Tree} {ts : List Tree} {s : List ℕ} {c n : ℕ} {l r h q w : List ℕ} {m : ℕ} {j v : ℕ}
    {F : List Frame} (over : HoldsTransitionsOver s c n) (holds : Holds A t ts s c n l r h q w m)
    (frames : FramesOf t ts m j v F) (i k : ℕ) (b : i < c) (d : k < arity_of s (transition_bytes * i)) where
  abbrev at : ℕ
  at = transition_bytes * i

  abbrev π : Slot
  π = slot_at s at k

  abbrev frame : ℕ → Frame
  frame = frame_at ts l r h k

  abbrev counted : ℕ → Bool
  counted = framed s at k l r h q m j v

  -- the frame f is that at place k of node x, whose child there is subtree u
  abbrev Located : Frame → ℕ → ℕ → Type 0
  Located f u x = (x < m) × (k < get_or r x 0) × (child_at h x k ≡ u) × (f ≡ frame x)

  located : (u : ℕ) → 1 ≤ u → u ≤ m → (f : Frame) → f ∈ frames_of t (tree_numbered ts u) → state_slot A f ≡ π →
      (x : ℕ) × Located f u x
  located u o g f y e =
      let (x, z, p) = in-get_d ts (fill f (tree_numbered ts u)) no_tree
      (holds.every-subtree _ (frames-fill t (tree_numbered ts u) f y)) in
      go x (omega (arith, holds.stored.size)) p
    where
      size : count f.before ≡ k
      size =
          sym (runs-count A f.before) ∙ ap (λ (ρ : Slot). length ρ.before) e ∙ length-tabulated (arg_of s at) 0 k

      go : (x : ℕ) → x < m → fill f (tree_numbered ts u) ≡ get_or ts x no_tree → (x : ℕ) × Located f u x
      go x z p = (
        x,
        (
          z,
          inside,
          child,
          λ y. record {
            label = node-label _ _ _ _ whole y;
            before = parts.0 y;
            after = cons-forest _ _ _ _ parts.1 y;
          },
        ),
      )
        where
          whole : node f.label (f.before ⧺ cons (tree_numbered ts u) f.after) ≡
              node (get_or l x 0) (trees_numbered ts (child_numbers r h x))
          whole = p ∙ holds.stored.tree x z

          forest : f.before ⧺ cons (tree_numbered ts u) f.after ≡ trees_numbered ts (child_numbers r h x)
          forest = node-children _ _ _ _ whole

          inside : k < get_or r x 0
          inside =
              omega (
                arith,
                size,
                count-plus f.before (cons (tree_numbered ts u) f.after),
                ap count forest,
                numbered-count ts (child_numbers r h x),
                length-tabulated (child_at h x) 0 (get_or r x 0),
              )

          parts : (f.before ≡ (frame x).before) ×
              (cons (tree_numbered ts u) f.after ≡ cons (tree_numbered ts (child_at h x k)) (frame x).after)
          parts =
              cancel f.before (frame x).before _ _
              (size ∙ sym (numbered-count ts (map (child_at h x) (up_from 0 k)) ∙ length-tabulated (child_at h x) 0 k))
              (forest ∙ children-around holds.stored k x inside)

          child : child_at h x k ≡ u
          child =
              let some = holds.stored.child-some x k z inside in
              let known = holds.stored.child-before x k z inside in
              let size = holds.stored.size in
              omega (
                arith,
                distinct-index ts holds.stored.distinct (u - 1) (child_at h x k - 1) (omega arith) (omega arith)
                    (cons-tree _ _ _ _ parts.1),
              )

  -- place k of a node is a frame of its child
  placed : (x : ℕ) → x < m → k < get_or r x 0 → frame x ∈ frames_of t (tree_numbered ts (child_at h x k))
  placed x z p =
      fill-frames t (tree_numbered ts (child_at h x k)) (frame x)
      (subst (λ (y : Tree). y ∈ subtrees t) (sym (fill-at holds.stored k x z p))
      (holds.subtree _ (get_d-in ts x no_tree (omega (arith, holds.stored.size)))))

  -- two nodes with the same child at place k and the same frame there are the same node
  same-node : (x y : ℕ) → x < m → y < m → k < get_or r x 0 → k < get_or r y 0 → child_at h x k ≡ child_at h y k →
      frame x ≡ frame y → x ≡ y
  same-node x y bx by dx dy e f =
      distinct-index ts holds.stored.distinct x y (omega (arith, holds.stored.size))
      (omega (arith, holds.stored.size))
      (sym (fill-at holds.stored k x bx dx)
      ∙ ap₂ (λ (g : Frame) (z : ℕ). fill g (tree_numbered ts z)) f e
      ∙ fill-at holds.stored k y by dy)

  -- a node x that is counted
  record Counted (x : ℕ) : Type 0 where
    known : x < m
    inside : k < get_or r x 0
    slot : state_slot A (frame x) ≡ π
    child : (child_at h x k ≡ j) ⊎ ((child_at h x k ≡ v) × (any (twin l r h j k x) (up_from 0 m) ≡ false))

  counted_is : (x : ℕ) → x ∈ filter counted (up_from 0 m) → Counted x
  unfolding frame_of
  counted_is x y =
      let (o, e) = filter-in counted (up_from 0 m) x y in
      let p : x < m = omega (arith, up_from-in 0 m x o) in
      let (a, g) = slot_of holds.stored k s at x p d (and_right (frame_of l r h m j v k x) _ e) in
      record {
        known = p;
        inside = omega (arith, a);
        slot = g;
        child = go (or_cases (eqb (child_at h x k) j) _ (and_left (frame_of l r h m j v k x) _ e));
      }
    where
      go : (eqb (child_at h x k) j ≡ true) ⊎
          ((eqb (child_at h x k) v && not (any (twin l r h j k x) (up_from 0 m))) ≡ true) →
          (child_at h x k ≡ j) ⊎ ((child_at h x k ≡ v) × (any (twin l r h j k x) (up_from 0 m) ≡ false))
      go (inl z) = inl (eqb-true _ _ z)
      go (inr z) = inr (
        eqb-true _ _ (and_left (eqb (child_at h x k) v) _ z),
        not-true _ (and_right (eqb (child_at h x k) v) _ z),
      )

  is-counted : (x : ℕ) → Counted x → x ∈ filter counted (up_from 0 m)
  unfolding frame_of
  is-counted x y =
      in-filter counted (up_from 0 m) x (in-up_from 0 m x (omega arith) (omega (arith, y.known)))
      (and_both (go y.child) (slot-in holds.stored k s at x y.known d y.inside y.slot))
    where
      go : (child_at h x k ≡ j) ⊎ ((child_at h x k ≡ v) × (any (twin l r h j k x) (up_from 0 m) ≡ false)) →
          frame_of l r h m j v k x ≡ true
      go (inl e) = or_left (eqb (child_at h x k) j) _ (eq-eqb _ _ e)
      go (inr (e, z)) = or_right (eqb (child_at h x k) j) _ (and_both (eq-eqb _ _ e) (ap not z))

  counted-once : (x y : ℕ) → Counted x → Counted y → frame x ≡ frame y → x ≡ y
  counted-once x y p o e = go p.child o.child
    where
      Child : ℕ → Type 0
      Child x = (child_at h x k ≡ j) ⊎ ((child_at h x k ≡ v) × (any (twin l r h j k x) (up_from 0 m) ≡ false))

      alone : (x y : ℕ) → Counted x → Counted y → frame x ≡ frame y → child_at h x k ≡ j →
          any (twin l r h j k y) (up_from 0 m) ≡ false → ⊥
      alone x y p o e f z =
          true≢false
          (sym (in-any (twin l r h j k y) (up_from 0 m) x (in-up_from 0 m x (omega arith) (omega (arith, p.known)))
          (frame-twin holds.stored k j y x o.known p.known o.inside p.inside f e))
          ∙ z)

      go : Child x → Child y → x ≡ y
      go (inl f) (inl g) = same-node x y p.known o.known p.inside o.inside (f ∙ sym g) e
      go (inr (f, z)) (inr (g, u)) = same-node x y p.known o.known p.inside o.inside (f ∙ sym g) e
      go (inl f) (inr (g, u)) = absurd (alone x y p o e f u)
      go (inr (f, z)) (inl g) = absurd (alone y x o p (sym e) g z)

  forth : (f : Frame) → f ∈ map frame (filter counted (up_from 0 m)) → f ∈ frames_at A π F
  forth f y =
      let (x, o, e) = map-in frame (filter counted (up_from 0 m)) f y in
      subst (λ (g : Frame). g ∈ frames_at A π F) (sym e) (go x (counted_is x o))
    where
      go : (x : ℕ) → Counted x → frame x ∈ frames_at A π F
      go x p = in-at A π F (frame x) (both p.child) p.slot
        where
          here : frame x ∈ frames_of t (tree_numbered ts (child_at h x k))
          here = placed x p.known p.inside

          both : (child_at h x k ≡ j) ⊎ ((child_at h x k ≡ v) × (any (twin l r h j k x) (up_from 0 m) ≡ false)) →
              frame x ∈ F
          both (inl e) =
              frames.of-first (frame x) (subst (λ (u : ℕ). frame x ∈ frames_of t (tree_numbered ts u)) e here)
          both (inr (e, z)) =
              frames.of-second (frame x)
              (omega (arith, e, holds.stored.child-some x k p.known p.inside))
              (subst (λ (u : ℕ). frame x ∈ frames_of t (tree_numbered ts u)) e here)

  back : (f : Frame) → f ∈ frames_at A π F → f ∈ map frame (filter counted (up_from 0 m))
  back f y = let (o, e) = at_in A π F f y in go e (frames.frame f o)
    where
      by : (x : ℕ) → f ≡ frame x → Counted x → f ∈ map frame (filter counted (up_from 0 m))
      by x e p =
          subst (λ (g : Frame). g ∈ map frame (filter counted (up_from 0 m))) (sym e)
          (in_map frame (filter counted (up_from 0 m)) x (is-counted x p))

      second : state_slot A f ≡ π → (x : ℕ) → Located f v x → (z : Bool) → any (twin l r h j k x) (up_from 0 m) ≡ z →
          f ∈ map frame (filter counted (up_from 0 m))
      second e x (p, o, g, a) false z =
          by x a (record {
            known = p;
            inside = o;
            slot = ap (state_slot A) (sym a) ∙ e;
            child = inr (g, z);
          })
      second e x (p, o, g, a) true z =
          let (y, u, w) = any-in (twin l r h j k x) (up_from 0 m) z in
          let (first, wide, same) = twin-frame holds.stored k j x y w o in
          by y (a ∙ sym same) (record {
            known = omega (arith, up_from-in 0 m y u);
            inside = omega (arith, wide);
            slot = ap (state_slot A) (same ∙ sym a) ∙ e;
            child = inl first;
          })

      go : state_slot A f ≡ π →
          (f ∈ frames_of t (tree_numbered ts j)) ⊎ ((1 ≤ v) × (f ∈ frames_of t (tree_numbered ts v))) →
          f ∈ map frame (filter counted (up_from 0 m))
      go e (inl y) =
          let (x, (p, o, g, a)) = located j frames.some frames.known f y e in
          by x a (record { known = p; inside = o; slot = ap (state_slot A) (sym a) ∙ e; child = inl g })
      go e (inr (y, z)) =
          let (x, p) = located v y frames.other f z e in
          second e x p (any (twin l r h j k x) (up_from 0 m)) refl

  counted-frames : frame_count s at k l r h q m j v ≡ length (frames_at A π F)
  counted-frames =
      let L = map frame (filter counted (up_from 0 m)) in
      let once : Distinct L = map-distinct frame (filter counted (up_from 0 m))
      (λ x y p o e. counted-once x y (counted_is x p) (counted_is y o) e)
      (filter-distinct counted (up_from 0 m) (up_from-distinct 0 m)) in
      omega (
        arith,
        length-map (filter counted (up_from 0 m)) frame,
        distinct-length L (frames_at A π F) once forth,
        distinct-length (frames_at A π F) L (at-distinct A π F) back,
      )

  pub covered-exact : covered_at (arrays l r h q w m j v) s (transition_bytes * i) k ≡
      covered A t (slot_at s (transition_bytes * i) k) F
  unfolding covered_at covered
  covered-exact =
      ap₂ eqb
      (slot-product (pairs_of A t) w s at k d
      (λ x o. holds.weights (arg_of s at x) (over.arg-some i x b o) (over.arg-state i x b o)))
      counted-frames

-- A frame over a subtree as a slot: each state that the subtree is like steps to the parent's name.
use mathlib.Core.Bool.{Bool, beq, true}
use mathlib.Core.List.{List}
use mathlib.Core.Path.{◌∙◌, ◌≡◌, ap, refl, subst, sym}
use Prim.Native.Nat.{◌*◌, ◌+◌, ◌-◌, ◌<◌, ◌≤◌, ◌^◌, ℕ}
use native.Mathlib.Omega.{arith}
use lib.Dec.{eqb}
use lib.ListN.{get_or, length, length-set, set, take}
use lib.Seq.{get_or-set_same, get_or-take, length-take-le}
use borrow.Author.Tests.{eqb-true}
use Rattle.automata.specs.Alike.{frames_of, like_state, uses_agree}
use Rattle.automata.specs.Automaton.{Automaton, accepting, run}
use Rattle.automata.specs.ContextRun.{step_frame}
use Rattle.format.specs.Format.{byte_pairs, max_arity}
use Rattle.packed.specs.declared.slots.Slot.{Slot}
use Rattle.packed.specs.Packed.{packed}
use Rattle.packed.specs.Slots.{SlotTakes}
use Rattle.subtrees.specs.Frames.{frame_at}
use Rattle.subtrees.specs.Steps.{Filled}
use Rattle.subtrees.specs.Store.{child_at, tree_numbered}
use Rattle.trees.specs.Context.{fill}
use Rattle.trees.specs.Tree.{Tree, no_tree}
use Rattle.alike.specs.Agreeing.{named_like_state, state_of}
use Rattle.uses.specs.Frames.{Shaped}
use Rattle.alike.specs.Known.{Holds, NamedAbove}
use Rattle.alike.specs.Slots.{SlotOf}
use Rattle.automata.proofs.Steps.{Has}
use Rattle.lists.proofs.Tests.{and_left, and_right, every_in}
use Rattle.packed.proofs.Seeking.{packed-taken}
use Rattle.uses.proofs.UseSlots.{step-has}
use Rattle.packed.proofs.Walks.{packed-put, slot-takes}
use Rattle.subtrees.proofs.Frames.{placed-frames}
use Rattle.alike.proofs.Criterion.{like-state-parts, own_name}
use Rattle.alike.proofs.FrameNames.{frame-stepped}
use Rattle.alike.proofs.NodeNames.{put-places}

-- in a frame over it, the step of a state that a subtree is like is the parent's name
module _ {A : Automaton} {t : Tree} {ts : List Tree} {m : ℕ} {l r c q names : List ℕ} {N : Tree → ℕ} (S : Tree → Bool)
    (holds : Holds A t ts m l r c q) (i k : ℕ) (h : i < m) (inside : k < get_or r i 0)
    (known : NamedAbove A t ts m (child_at c i k) names N) (p : ℕ) where
  frame-agrees : like_state A t S N (tree_numbered ts (child_at c i k)) p ≡ true →
      N (fill (frame_at ts l r c i k) (tree_numbered ts (child_at c i k))) ≡ step_frame A (frame_at ts l r c i k) p
  unfolding named_like_state
  frame-agrees like =
      let u = tree_numbered ts (child_at c i k) in
      let f = frame_at ts l r c i k in
      let named : named_like_state A t S N u p ≡ true =
      and_left (named_like_state A t S N u p) (uses_agree A t (frames_of t u) (run A u) p)
      (like-state-parts A t S N u p ∙ like) in
      eqb-true (N (fill f u)) (step_frame A f p)
      (every_in (λ g. eqb (N (fill g u)) (step_frame A g p)) (frames_of t u)
      (and_right (beq (S u) (accepting A p)) _ named) f
      (placed-frames holds.stored t holds.subtree holds.every-subtree i k (child_at c i k) h inside refl))

  frame-named : like_state A t S N (tree_numbered ts (child_at c i k)) p ≡ true →
      step_frame A (frame_at ts l r c i k) p ≡ get_or names i 0
  frame-named like =
      let j = child_at c i k in
      let n : i + 1 - 1 ≡ i = omega arith in
      let own : N (get_or ts i no_tree) ≡ get_or names i 0 =
      ap (λ x. N (get_or ts x no_tree)) (sym n)
      ∙ known.named (i + 1) (omega (arith, holds.stored.child-before i k h inside)) (omega arith)
      ∙ ap (λ x. get_or names x 0) n in
      sym (frame-agrees like)
      ∙ sym (own_name holds N j (holds.stored.child-some i k h inside)
      (omega (arith, holds.stored.child-before i k h inside)) i k h inside refl)
      ∙ own

-- the states of the children, with 0 at place k
module _ (r c : List ℕ) (i : ℕ) {w : ℕ} {ns : List ℕ} (width : w ≡ get_or r i 0) (filled : Filled (child_at c i) w ns)
    {m : ℕ} (q : List ℕ) {qs : List ℕ} (states : Filled (state_of q ns) w qs) (shaped : Shaped m r c) (k : ℕ) (h : i < m)
    (inside : k < get_or r i 0) where
  narrow : w ≤ max_arity
  narrow = omega (arith, shaped.narrow i h)

  pub frame-slot : {l names : List ℕ} (some : 1 ≤ get_or names i 0) (z : Slot) → z.meta ≡ byte_pairs * w + get_or l i 0 →
      z.args ≡ packed (set qs k 0) → z.place ≡ k → z.out ≡ get_or names i 0 → SlotOf m (child_at c i k) l r c q names z
  frame-slot {l} {names} some z meta args place out = record {
    place = omega (arith, shaped.narrow i h);
    takes = λ s n A t ts S N search own holds known p like. subst (SlotTakes s n z) (here p)
        (slot-takes z (get_or l i 0) (ys p) search.padded (omega (arith, size p))
        (meta ∙ ap (λ x. byte_pairs * x + get_or l i 0) (sym (size p))) (number p)
        (subst (λ τs. Has τs (get_or l i 0) (ys p) z.out) own
        (step-has A (get_or l i 0) (ys p)
        (frame-stepped r c i width filled shaped holds k p h inside states refl
        ∙ frame-named S holds i k h inside known p like ∙ sym out) (omega (arith, some, out)))));
  }
    where
      ys : ℕ → List ℕ
      ys p = take w (set qs k p)

      full : (p : ℕ) → length (set qs k p) ≡ max_arity
      full p = length-set qs k p ∙ states.size

      size : (p : ℕ) → length (ys p) ≡ w
      size p = length-take-le w (set qs k p) (omega (arith, narrow, full p))

      here : (p : ℕ) → get_or (ys p) z.place 0 ≡ p
      here p =
          ap (λ x. get_or (ys p) x 0) place ∙ get_or-take w (set qs k p) k 0 (omega arith)
          ∙ get_or-set_same qs k p 0 (omega (arith, narrow, states.size))

      number : (p : ℕ) → packed (ys p) ≡ z.args + get_or (ys p) z.place 0 * 2 ^ (8 * (7 - z.place))
      number p =
          sym (packed-taken (full p) (put-places states narrow k p (omega arith)))
          ∙ packed-put qs k p (omega (arith, narrow, states.size)) (omega (arith, narrow))
          ∙ ap (λ x. packed (set qs k 0) + p * 2 ^ (8 * (7 - x))) (sym place)
          ∙ ap (λ x. x + p * 2 ^ (8 * (7 - z.place))) (sym args)
          ∙ ap (λ x. z.args + x * 2 ^ (8 * (7 - z.place))) (sym (here p))

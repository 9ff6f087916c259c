-- The frames of one subtree, or of two, and the state of a subtree read from the arrays.
use mathlib.Core.List.{List, ◌++◌}
use mathlib.Core.Logic.{◌⊎◌, inl, inr}
use mathlib.Core.Path.{◌∙◌, ◌≡◌, ap}
use Prim.Native.Nat.{◌-◌, ◌≤◌, ℕ}
use native.Mathlib.Omega.{arith}
use lib.ListN.{get_or}
use Rattle.automata.specs.Alike.{frames_of}
use Rattle.automata.specs.Automaton.{Automaton, run}
use Rattle.lists.specs.Tests.{◌∈◌}
use Rattle.subtrees.specs.Parents.{ParentsWithin}
use Rattle.subtrees.specs.Store.{tree_numbered}
use Rattle.trees.specs.Context.{Frame}
use Rattle.trees.specs.Tree.{Tree}
use Rattle.uses.specs.Frames.{Nodes, Shaped}
use Rattle.uses.specs.Uses.{FramesOf, Holds}
use Rattle.lists.proofs.Tests.{append-in, in_append_left, in_append_right}

pub first-only : (t : Tree) (ts : List Tree) (m j : ℕ) → 1 ≤ j → j ≤ m →
    FramesOf t ts m j 0 (frames_of t (tree_numbered ts j))
first-only t ts m j a b = record {
  some = a;
  known = b;
  other = omega arith;
  apart = λ e. omega arith;
  frame = λ f i. inl i;
  of-first = λ f i. i;
  of-second = λ f z i. absurd (omega arith);
}

pub both-subtrees : (t : Tree) (ts : List Tree) (m j v : ℕ) → 1 ≤ j → j ≤ m → 1 ≤ v → v ≤ m → (j ≡ v → ⊥) →
    FramesOf t ts m j v (frames_of t (tree_numbered ts j) ++ frames_of t (tree_numbered ts v))
both-subtrees t ts m j v a b o d n = record {
  some = a;
  known = b;
  other = d;
  apart = n;
  frame = λ f i. split f (append-in (frames_of t (tree_numbered ts j)) (frames_of t (tree_numbered ts v)) f i);
  of-first = λ f i. in_append_left (frames_of t (tree_numbered ts j)) (frames_of t (tree_numbered ts v)) f i;
  of-second = λ f z i. in_append_right (frames_of t (tree_numbered ts j)) (frames_of t (tree_numbered ts v)) f i;
}
  where
    split : (f : Frame) → (f ∈ frames_of t (tree_numbered ts j)) ⊎ (f ∈ frames_of t (tree_numbered ts v)) →
        (f ∈ frames_of t (tree_numbered ts j)) ⊎ ((1 ≤ v) × (f ∈ frames_of t (tree_numbered ts v)))
    split f (inl i) = inl i
    split f (inr i) = inr (o, i)

pub shaped-nodes : {m : ℕ} {r c : List ℕ} → Shaped m r c → Nodes m r c
shaped-nodes shaped = record {
  few = shaped.few;
  narrow = shaped.narrow;
  child-some = shaped.child-some;
  child-known = λ i k h l. omega (arith, shaped.child-before i k h l);
}

-- no node has 0 as a child
pub no-parents : {m : ℕ} {r c : List ℕ} {j start end : ℕ} → Nodes m r c → ParentsWithin m r c j start end →
    ParentsWithin m r c 0 start end
no-parents nodes within = record {
  known = within.known;
  above = λ i k h l e. absurd (omega (arith, nodes.child-some i k h l));
  below = λ i k h l e. absurd (omega (arith, nodes.child-some i k h l));
}

pub state-read : {A : Automaton} {t : Tree} {ts : List Tree} {s : List ℕ} {c n : ℕ} {l r h q w : List ℕ} {m : ℕ} →
    Holds A t ts s c n l r h q w m → (j : ℕ) → 1 ≤ j → j ≤ m → {x : ℕ} → x ≡ j →
    get_or q (x - 1) 0 ≡ run A (tree_numbered ts j)
state-read {A} {t} {ts} {s} {c} {n} {l} {r} {h} {q} holds j a b e =
    ap (λ (y : ℕ). get_or q (y - 1) 0) e ∙ holds.stored.state (j - 1) (omega arith)

-- The name that a candidate gives a frame over a subtree, and loops over parents and their places.
use mathlib.Core.Bool.{Bool, false, true}
use mathlib.Core.List.{List, map}
use mathlib.Core.Path.{◌∙◌, ◌≡◌, ap, ap₂, refl, subst, sym}
use Prim.Native.Nat.{◌+◌, ◌-◌, ◌<◌, ◌≤◌, ℕ}
use native.Mathlib.Omega.{arith}
use lib.Dec.{eqb}
use lib.ListN.{get_or, set, take}
use lib.Seq.{get_or-set_same, take-set-lt}
use borrow.Author.Tests.{eq-eqb, eqb-false, eqb-true, ne_eqb}
use Rattle.automata.specs.Automaton.{Automaton, runs, step}
use Rattle.automata.specs.ContextRun.{step_frame}
use Rattle.format.specs.Format.{max_arity}
use Rattle.lists.specs.Positions.{up_from}
use Rattle.lists.specs.Tests.{every}
use Rattle.subtrees.specs.Frames.{frame_at}
use Rattle.subtrees.specs.Parents.{ParentsWithin}
use Rattle.subtrees.specs.Steps.{Children, Filled}
use Rattle.subtrees.specs.Store.{child_at, child_numbers, tree_numbered, trees_numbered}
use Rattle.table.specs.Layout.{transitions_in}
use Rattle.trees.specs.Context.{fill}
use Rattle.trees.specs.Tree.{Tree, no_tree, node}
use Rattle.alike.specs.Agreeing.{name_in, parent_agrees, place_agrees, state_of}
use Rattle.uses.specs.Frames.{Shaped}
use Rattle.alike.specs.declared.frames.Candidate.{Candidate}
use Rattle.alike.specs.Known.{FromOn, Holds, NamedAbove}
use Rattle.lists.proofs.Intervals.{at_every, every-at, length-tabulated}
use Rattle.lists.proofs.Loops.{EveryFrom}
use Rattle.lists.proofs.Tests.{same_test}
use Rattle.subtrees.proofs.Frames.{fill-at}
use Rattle.alike.proofs.NodeNames.{filled-children, filled-take, runs-put, states-run}

-- ---- the children of a parent

module _ (r c : List ℕ) (i : ℕ) {w : ℕ} {ns : List ℕ} (width : w ≡ get_or r i 0) (filled : Filled (child_at c i) w ns) where
  pub frame-children : {m : ℕ} → Shaped m r c → i < m → Children ns w m
  frame-children {m} shaped h =
      filled-children filled (omega (arith, shaped.narrow i h)) m (λ k l. shaped.child-some i k h (omega arith))
      (λ k l. omega (arith, shaped.child-before i k h (omega arith)))

  own-numbers : w ≤ max_arity → take w ns ≡ child_numbers r c i
  own-numbers l = filled-take filled l ∙ ap (λ z. map (child_at c i) (up_from 0 z)) width

  -- with another child at place k
  pub put-numbers : (k x : ℕ) → w ≤ max_arity → k < w → take w (set ns k x) ≡ set (child_numbers r c i) k x
  put-numbers k x l h = take-set-lt w ns k x h ∙ ap (λ xs. set xs k x) (own-numbers l)

  pub put-here : (k x : ℕ) → w ≤ max_arity → k < w → get_or (set ns k x) k 0 ≡ x
  put-here k x l h = get_or-set_same ns k x 0 (omega (arith, filled.size))

  module _ {A : Automaton} {t : Tree} {ts : List Tree} {m : ℕ} {l q : List ℕ} (shaped : Shaped m r c)
      (holds : Holds A t ts m l r c q) (k x : ℕ) (h : i < m) (inside : k < get_or r i 0) where
    narrow : w ≤ max_arity
    narrow = omega (arith, shaped.narrow i h)

    -- the step of a state
    pub frame-stepped : {qs : List ℕ} {v : ℕ} → Filled (state_of q ns) w qs → v ≡ step A (get_or l i 0) (take w (set qs k x)) →
        v ≡ step_frame A (frame_at ts l r c i k) x
    frame-stepped {qs} states e =
        e ∙ ap (step A (get_or l i 0)) (take-set-lt w qs k x (omega arith)
        ∙ ap (λ xs. set xs k x) (states-run holds.stored filled.size (frame-children shaped h) states
        ∙ ap (λ xs. runs A (trees_numbered ts xs)) (own-numbers narrow))
        ∙ runs-put A ts (child_numbers r c i) k x (omega (arith, length-tabulated (child_at c i) 0 (get_or r i 0))))

    -- the node over a subtree
    pub frame-filled : node (get_or l i 0) (trees_numbered ts (take w (set ns k x))) ≡
        fill (frame_at ts l r c i k) (tree_numbered ts x)
    frame-filled =
        ap (λ xs. node (get_or l i 0) (trees_numbered ts xs)) (put-numbers k x narrow (omega arith))
        ∙ sym (fill-at holds.stored i k x inside)

-- ---- a place

module _ (A : Automaton) (N : Tree → ℕ) (ts : List Tree) (l r c : List ℕ) (a : ℕ) (x : Candidate) (i k : ℕ) where
  pub place_other : (child_at c i k ≡ a → ⊥) → true ≡ place_agrees A N ts l r c a x i k
  place_other d = rw (ne_eqb (child_at c i k) a d)

  pub place-own : {t : Tree} {m j : ℕ} {names : List ℕ} {y z : ℕ} → Shaped m r c → i < m → k < get_or r i 0 →
      NamedAbove A t ts m j names N → j ≤ a → child_at c i k ≡ a → y ≡ get_or names i 0 →
      z ≡ name_in A N ts x (frame_at ts l r c i k) → eqb y z ≡ place_agrees A N ts l r c a x i k
  place-own {t} {m} {j} {names} {y} {z} shaped h inside known above d e f =
      let n : i + 1 - 1 ≡ i = omega arith in
      let own : N (get_or ts i no_tree) ≡ y =
      ap (λ p. N (get_or ts p no_tree)) (sym n)
      ∙ known.named (i + 1) (omega (arith, shaped.child-before i k h inside)) (omega arith)
      ∙ ap (λ p. get_or names p 0) n ∙ sym e in
      rw (eq-eqb (child_at c i k) a d) (ap₂ eqb (sym own) f)

-- ---- loops

-- what holds of every setting in which code looks at the frames over subtree a
abbrev pub Given : List ℕ → ℕ → ℕ → List ℕ → List ℕ → List ℕ → List ℕ → List ℕ → ℕ → Candidate →
    (Automaton → (Tree → ℕ) → List Tree → Type 0) → Type 0
Given s n m l r c q names a x P =
    (A : Automaton) (t : Tree) (ts : List Tree) (N : Tree → ℕ) (j : ℕ) → A.transitions ≡ transitions_in s n →
    Holds A t ts m l r c q → NamedAbove A t ts m j names N → j ≤ a → FromOn j x → P A N ts

-- the bounds of the parents of a subtree whose number equals j
pub numbered-parents : {m : ℕ} {r c : List ℕ} {j w from to : ℕ} → w ≡ j → ParentsWithin m r c j from to →
    ParentsWithin m r c w from to
numbered-parents {m} {r} {c} {j} {w} {from} {to} e p = subst (λ (x : ℕ). ParentsWithin m r c x from to) (sym e) p

-- a loop between the bounds of the parents sees every parent
pub parents-within : (A : Automaton) (N : Tree → ℕ) (ts : List Tree) (l r c : List ℕ) (a : ℕ) (x : Candidate)
    {m from to : ℕ} → ParentsWithin m r c a from to →
    EveryFrom (every (parent_agrees A N ts l r c a x) (up_from 0 m)) (parent_agrees A N ts l r c a x)
    (from + (to - from)) from
parents-within A N ts l r c a x {m} {from} {to} within = record {
  within = omega arith;
  left = same_test (every p (up_from 0 m)) (every p (up_from from (from + (to - from) - from)))
      (λ e. at_every p from (from + (to - from) - from)
      (λ i u v. every-at p 0 m e i (omega arith) (omega (arith, within.known))))
      (λ e. at_every p 0 m
      (λ i u v. at_every (place_agrees A N ts l r c a x i) 0 (get_or r i 0) (λ k g h. one e i k (omega arith) (omega arith)
      (eqb (child_at c i k) a) refl)));
}
  where
    p : ℕ → Bool
    p = parent_agrees A N ts l r c a x

    one : every (parent_agrees A N ts l r c a x) (up_from from (from + (to - from) - from)) ≡ true → (i k : ℕ) →
        i < m → k < get_or r i 0 → (b : Bool) → eqb (child_at c i k) a ≡ b → place_agrees A N ts l r c a x i k ≡ true
    one e i k u v true d =
        let own = eqb-true (child_at c i k) a d in
        every-at (place_agrees A N ts l r c a x i) 0 (get_or r i 0)
        (every-at (parent_agrees A N ts l r c a x) from (from + (to - from) - from) e i (within.above i k u v own)
        (omega (arith, within.below i k u v own))) k (omega arith) (omega arith)
    one e i k u v false d = sym (place_other A N ts l r c a x i k (eqb-false (child_at c i k) a d))

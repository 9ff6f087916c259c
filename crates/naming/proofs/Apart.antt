-- What the names of its parents imply for a subtree. If some parent's name is a subtree's own name, the subtree is
-- like no state and not like 0, because every step gives a state or 0. If a parent's own name is unshared, the
-- subtree is like no greater subtree, because in the parent's frame that subtree would make another tree with the
-- parent's name.
use mathlib.Core.Bool.{Bool, beq, ◌&&◌, false, true}
use mathlib.Core.List.{List, ◌++◌, ◌∷◌}
use mathlib.Core.Path.{◌∙◌, ◌≡◌, ap, refl, sym}
use Prim.Native.Nat.{◌+◌, ◌-◌, ◌<◌, ◌≤◌, ℕ}
use native.Mathlib.Omega.{arith}
use lib.Dec.{eqb, ltb}
use lib.ListN.{get_or}
use borrow.Author.Tests.{eqb-false, eqb-true, ltb-true}
use Rattle.automata.specs.Alike.{frames_of, like_state, like_subtree}
use Rattle.automata.specs.Automaton.{Automaton, Fits, runs, states}
use Rattle.automata.specs.ContextRun.{step_frame}
use Rattle.automata.specs.Names.{is_subtree}
use Rattle.lists.specs.Positions.{up_from}
use Rattle.lists.specs.Tests.{◌∈◌, any}
use Rattle.subtrees.specs.Store.{tree_numbered}
use Rattle.trees.specs.Context.{Frame, fill}
use Rattle.trees.specs.Tree.{Tree}
use Rattle.alike.specs.Known.{Holds}
use Rattle.alike.specs.Known.{NamedAbove}
use Rattle.naming.specs.Choice.{OwnChosen}
use Rattle.naming.specs.Parents.{Shared, anchors, is_child, raises}
use Rattle.automata.proofs.Distinguishable.{run_fits, step_fits}
use Rattle.automata.proofs.Frames.{fill-frames}
use Rattle.automata.proofs.Names.{subtree-in}
use Rattle.lists.proofs.Positions.{up_from-in}
use Rattle.lists.proofs.Tests.{and_left, and_right, any-in, every_in, in_append_left}
use Rattle.naming.proofs.Parentage.{child-frame, fill-same, frame-above, in-number, number_in, number_same}
use Rattle.naming.proofs.Parentage.{refuted}

frame-fits : (A : Automaton) → Fits A → (f : Frame) (p : ℕ) → step_frame A f p ≤ states A
frame-fits A fit f p = step_fits A fit f.label (runs A f.before ++ (p ∷ runs A f.after))

module _ (A : Automaton) (t : Tree) (S : Tree → Bool) (N : Tree → ℕ) where
  -- a subtree that is like a state or a subtree has the same name in each of its frames
  like-step : (u : Tree) (q : ℕ) → like_state A t S N u q ≡ true → (f : Frame) → f ∈ frames_of t u →
      N (fill f u) ≡ step_frame A f q
  unfolding like_state
  like-step u q e f i =
      eqb-true (N (fill f u)) (step_frame A f q)
      (every_in (λ g. eqb (N (fill g u)) (step_frame A g q)) (frames_of t u)
      (and_right (beq (S u) _) _ (and_left (beq (S u) _ && _) _ e)) f i)

  like-name : (u v : Tree) → like_subtree A t S N u v ≡ true → (f : Frame) → f ∈ frames_of t u →
      N (fill f u) ≡ N (fill f v)
  unfolding like_subtree
  like-name u v e f i =
      eqb-true (N (fill f u)) (N (fill f v))
      (every_in (λ g. eqb (N (fill g u)) (N (fill g v))) (frames_of t u ++ frames_of t v)
      (and_right (beq (S u) (S v)) _ (and_left (beq (S u) (S v) && _) _ e)) f
      (in_append_left (frames_of t u) (frames_of t v) f i))

module _ {A : Automaton} {t : Tree} {ts : List Tree} {n m : ℕ} {l r c q : List ℕ} (S : Tree → Bool)
    (h : Holds A t ts m l r c q) (fit : Fits A) (size : states A ≡ n) {j : ℕ} {names : List ℕ} {N : Tree → ℕ}
    (X : NamedAbove A t ts m j names N) where
  -- a child is in a frame whose whole is the parent
  parent-frame : (i : ℕ) → j < i → i ≤ m → is_child r c i j ≡ true →
      (f : Frame) × (f ∈ frames_of t (tree_numbered ts j)) × (fill f (tree_numbered ts j) ≡ tree_numbered ts i) ×
      (N (fill f (tree_numbered ts j)) ≡ get_or names (i - 1) 0)
  parent-frame i low high e =
      let (f, d) = child-frame h i j (omega arith) high e in (
        f,
        fill-frames t (tree_numbered ts j) f (rw d (number_in h i (omega arith) high)),
        d,
        ap N d ∙ X.named i low high,
      )

  pub raised-no-state : any (raises n r c names j) (up_from (j + 1) (m - j)) ≡ true → (p : ℕ) →
      like_state A t S N (tree_numbered ts j) p ≡ false
  unfolding raises
  raised-no-state e p =
      let (i, w, d) = any-in (raises n r c names j) (up_from (j + 1) (m - j)) e in
      let (low, high) = up_from-in (j + 1) (m - j) i w in
      let (f, k, _, z) = parent-frame i (omega arith) (omega arith) (and_right (ltb n _) _ d) in
      refuted (like_state A t S N (tree_numbered ts j) p)
      (λ y.
      omega (
        arith,
        z,
        ltb-true n (get_or names (i - 1) 0) (and_left _ _ d),
        like-step A t S N (tree_numbered ts j) p y f k,
        frame-fits A fit f p,
        size,
      ))

  module _ {shared : List ℕ} (alone : Shared n m j names shared) where
    -- a tree with the unshared own name of a subtree is that subtree
    alone-same : (i : ℕ) → j < i → i ≤ m → get_or shared (i - 1) 0 ≡ 0 → (f : Frame) (v : ℕ) → j < v → v ≤ m →
        N (fill f (tree_numbered ts v)) ≡ n + i → fill f (tree_numbered ts v) ≡ tree_numbered ts i
    alone-same i low high z f v a b e = go (is_subtree t (fill f (tree_numbered ts v))) refl
      where
        found : (x : ℕ) × (1 ≤ x) × (x ≤ m) × (tree_numbered ts x ≡ fill f (tree_numbered ts v)) →
            fill f (tree_numbered ts v) ≡ tree_numbered ts i
        found (x, s, k, d) = same (eqb x i) refl
          where
            above : j < x
            above = omega (arith, frame-above h f x v s k (omega arith) b (sym d))

            same : (y : Bool) → eqb x i ≡ y → fill f (tree_numbered ts v) ≡ tree_numbered ts i
            same true y = sym d ∙ ap (tree_numbered ts) (eqb-true x i y)
            same false y =
                absurd (alone.each x i above k (omega arith) (sym (X.named x above k) ∙ ap N d ∙ e)
                (eqb-false x i y) z)

        go : (y : Bool) → is_subtree t (fill f (tree_numbered ts v)) ≡ y →
            fill f (tree_numbered ts v) ≡ tree_numbered ts i
        go true y = found (in-number h (fill f (tree_numbered ts v)) (subtree-in t (fill f (tree_numbered ts v)) y))
        go false y =
            absurd (omega (
              arith,
              e,
              X.others (fill f (tree_numbered ts v)) y,
              run_fits A fit (fill f (tree_numbered ts v)),
              size,
            ))

    -- what `anchored` finds
    anchor : any (anchors n r c names shared j) (up_from (j + 1) (m - j)) ≡ true →
        (i : ℕ) × (j < i) × (i ≤ m) × (get_or names (i - 1) 0 ≡ n + i) × (get_or shared (i - 1) 0 ≡ 0) ×
        (is_child r c i j ≡ true)
    unfolding anchors
    anchor e =
        let (i, w, d) = any-in (anchors n r c names shared j) (up_from (j + 1) (m - j)) e in
        let (low, high) = up_from-in (j + 1) (m - j) i w in
        let own = eqb-true (get_or names (i - 1) 0) (n + i) (and_left _ _ d) in
        let rest = and_right (eqb (get_or names (i - 1) 0) (n + i)) _ d in (
          i,
          omega arith,
          omega arith,
          own,
          eqb-true (get_or shared (i - 1) 0) 0 (and_left _ _ rest),
          and_right (eqb (get_or shared (i - 1) 0) 0) _ rest,
        )

    anchored-no-state : any (anchors n r c names shared j) (up_from (j + 1) (m - j)) ≡ true → (p : ℕ) →
        like_state A t S N (tree_numbered ts j) p ≡ false
    anchored-no-state e p =
        let (i, low, high, own, _, child) = anchor e in
        let (f, k, _, z) = parent-frame i low high child in
        refuted (like_state A t S N (tree_numbered ts j) p)
        (λ y.
        omega (
          arith,
          z,
          own,
          like-step A t S N (tree_numbered ts j) p y f k,
          frame-fits A fit f p,
          size,
        ))

    anchored-no-subtree : any (anchors n r c names shared j) (up_from (j + 1) (m - j)) ≡ true → 1 ≤ j →
        (v : ℕ) → j < v → v ≤ m → like_subtree A t S N (tree_numbered ts j) (tree_numbered ts v) ≡ false
    anchored-no-subtree e s v a b =
        let (i, low, high, own, z, child) = anchor e in
        let (f, k, d, y) = parent-frame i low high child in
        refuted (like_subtree A t S N (tree_numbered ts j) (tree_numbered ts v))
        (λ w.
        let same = alone-same i low high z f v a b
        (sym (like-name A t S N (tree_numbered ts j) (tree_numbered ts v) w f k) ∙ y ∙ own) in
        omega (
          arith,
          number_same h j v s (omega arith) (omega arith) b
              (fill-same f (tree_numbered ts j) (tree_numbered ts v) (d ∙ sym same)),
        ))

    -- so the subtree has its own name
    pub anchored-own : any (anchors n r c names shared j) (up_from (j + 1) (m - j)) ≡ true → 1 ≤ j →
        OwnChosen A t S ts n m N j (n + j)
    anchored-own e s = record {
      same = refl;
      no-state = record { each = λ p h f. anchored-no-state e p };
      no-subtree = record { each = λ v a b o. anchored-no-subtree e s v a (omega arith) };
    }

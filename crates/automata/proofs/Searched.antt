-- Names found by search are names of the changed set: two trees have one name exactly if class and every frame agree.
use mathlib.Core.Bool.{Bool, cond, false, true, true≢false}
use mathlib.Core.List.{List, [], ◌∷◌}
use mathlib.Core.Logic.{◌≢◌, ◌⊎◌, inl, inr}
use mathlib.Core.Path.{◌∙◌, ◌≡◌, ap, refl, subst, sym}
use Prim.Native.Nat.{◌+◌, ◌<◌, suc, zero, ℕ}
use native.Mathlib.Omega.{arith}
use lib.Dec.{eqb, ltb}
use borrow.Author.Tests.{eqb-false, eqb-true, ltb-false, ltb-true}
use Rattle.automata.specs.Automaton.{Automaton, Fits, accepting, run, runs, states}
use Rattle.automata.specs.Canonical.{Canonical, Subtree}
use Rattle.automata.specs.Change.{subtree_number, subtrees}
use Rattle.automata.specs.ContextRun.{run_context, step_frame}
use Rattle.automata.specs.Names.{Naming, is_subtree}
use Rattle.automata.specs.Searched.{Free, Numbering, OwnName, Searched, SharedName, StateName}
use Rattle.automata.specs.SubtreeNames.{name_of}
use Rattle.lists.specs.Tests.{◌∈◌}
use Rattle.trees.specs.Context.{Context, Frame, fill}
use Rattle.trees.specs.Tree.{Tree, ◌⧺◌, cons, eq_tree}
use Rattle.automata.proofs.Alike.{like-state, like-subtree, unlike-state}
use Rattle.automata.proofs.CanonicalChange.{canonical-fits}
use Rattle.automata.proofs.CanonicalRun.{canonical-accepts}
use Rattle.automata.proofs.Change.{own-subtree, subtrees-closed}
use Rattle.automata.proofs.Frames.{not-subtree}
use Rattle.automata.proofs.Names.{other-in, subtree-in}
use Rattle.automata.proofs.FreeStates.{accepted, free-fits, same-state, used}
use Rattle.automata.proofs.StatePairs.{tree-open}
use Rattle.automata.proofs.Steps.{run-fill, run_context-zero, step-zero}
use Rattle.lists.proofs.Positions.{position-inj, position-pos}
use Rattle.trees.proofs.Trees.{all_here, eq_tree-same, eq_tree-true}

-- the positions in a list that has all subtrees number them
pub position-numbering : (t : Tree) (ts : List Tree) → ((u : Tree) → u ∈ subtrees t → u ∈ ts) →
    Numbering t (subtree_number ts)
position-numbering t ts all = record {
  positive = λ u e. position-pos eq_tree eq_tree-true eq_tree-same ts u (all u (subtree-in t u e));
  injective = λ u v e d. position-inj eq_tree eq_tree-true eq_tree-same ts u v (all u (subtree-in t u e));
}

module _ (S₀ : Tree → Bool) (A : Automaton) (X : Canonical S₀ A) (t : Tree) (S : Tree → Bool)
    (agree : (v : Tree) → eq_tree v t ≡ false → S v ≡ S₀ v) (number ν : Tree → ℕ) (numbers : Numbering t number)
    (searched : Searched A t S number ν) where
  abbrev N : Tree → ℕ
  N = name_of A t ν

  fit : Fits A
  fit = canonical-fits S₀ A X

  others : (u : Tree) → is_subtree t u ≡ false → N u ≡ run A u
  others u e = ap (λ (b : Bool). cond b (ν u) (run A u)) e

  named : (u : Tree) → is_subtree t u ≡ true → N u ≡ ν u
  named u e = ap (λ (b : Bool). cond b (ν u) (run A u)) e

  -- a tree agrees with a state, or with a tree, in class and in every frame
  abbrev LikeState : Tree → ℕ → Type 0
  LikeState u q = (S u ≡ accepting A q) × ((f : Frame) → N (fill f u) ≡ step_frame A f q)

  abbrev LikeTree : Tree → Tree → Type 0
  LikeTree u v = (S u ≡ S v) × ((f : Frame) → N (fill f u) ≡ N (fill f v))

  back : (u v : Tree) → LikeTree u v → LikeTree v u
  back u v (c, h) = (sym c, λ f. sym (h f))

  through : (u v w : Tree) → LikeTree u v → LikeTree v w → LikeTree u w
  through u v w (c, h) (d, k) = (c ∙ d, λ f. h f ∙ k f)

  to-state : (u v : Tree) (q : ℕ) → LikeTree u v → LikeState v q → LikeState u q
  to-state u v q (c, h) (d, k) = (c ∙ d, λ f. h f ∙ k f)

  -- a tree that is no subtree agrees with its state
  outside-like : (u : Tree) → is_subtree t u ≡ false → LikeState u (run A u)
  outside-like u e =
      let c = agree u (other (eq_tree u t) refl) ∙ sym (canonical-accepts S₀ A X u) in
      (c, λ f. others (fill f u) (above f) ∙ run-fill A f u)
    where
      other : (b : Bool) → eq_tree u t ≡ b → eq_tree u t ≡ false
      other true d =
          absurd (other-in t u e
          (subst (λ (v : Tree). v ∈ subtrees t) (sym (eq_tree-true u t d)) (own-subtree t)))
      other false d = d

      above : (f : Frame) → is_subtree t (fill f u) ≡ false
      above f =
          not-subtree t (fill f u)
          (λ i. other-in t u e
          (all_here (λ v. v ∈ subtrees t) f.before u f.after
          (subtrees-closed t f.label (f.before ⧺ cons u f.after) i)))

  outside-free : (u : Tree) → is_subtree t u ≡ false → Free A t (run A u)
  outside-free u e = go (run A u) refl
    where
      go : (q : ℕ) → run A u ≡ q → Free A t q
      go zero z = inl refl
      go (suc q) z = inr (tree-open A fit t (suc q) (omega arith) u z (other-in t u e))

  -- the name of a tree is a free state, or the own name of a subtree; the tree agrees with it
  abbrev ByState : Tree → Type 0
  ByState u = Free A t (N u) × LikeState u (N u)

  abbrev ByRoot : Tree → Type 0
  ByRoot u =
      (r : Tree) × (is_subtree t r ≡ true) × OwnName A t S number ν r × (N u ≡ states A + number r) × LikeTree u r

  by_state : (u : Tree) (q : ℕ) → N u ≡ q → Free A t q → LikeState u q → ByState u
  by_state u q e x y = subst (λ (p : ℕ). Free A t p × LikeState u p) (sym e) (x, y)

  -- an own name is no state, and that of one subtree only
  own-above : (u : Tree) → is_subtree t u ≡ true → Free A t (states A + number u) → ⊥
  own-above u e x = omega (arith, free-fits S₀ A X t (states A + number u) x, numbers.positive u e)

  own-one : (u v : Tree) → is_subtree t u ≡ true → is_subtree t v ≡ true →
      states A + number u ≡ states A + number v → u ≡ v
  own-one u v e d h = numbers.injective u v e d (omega arith)

  kind : (u : Tree) → ByState u ⊎ ByRoot u
  kind u = go (is_subtree t u) refl
    where
      shared : is_subtree t u ≡ true → (s : SharedName A t S number ν u) →
          StateName A t S ν s.model ⊎ (SharedName A t S number ν s.model ⊎ OwnName A t S number ν s.model) →
          ByRoot u
      shared e s (inl m) = absurd (own-above s.model s.there (subst (Free A t) s.own m.free))
      shared e s (inr (inl m)) =
          absurd (m.other (own-one m.model s.model m.there s.there
          (sym m.own ∙ sym m.same ∙ s.own)))
      shared e s (inr (inr o)) =
          let l = (like-subtree A fit t S N others u s.model).0 s.like in
          (s.model, s.there, o, named u e ∙ s.same ∙ s.own, l)

      from : is_subtree t u ≡ true →
          StateName A t S ν u ⊎ (SharedName A t S number ν u ⊎ OwnName A t S number ν u) → ByState u ⊎ ByRoot u
      from e (inl s) =
          inl (by_state u (ν u) (named u e) s.free ((like-state A fit t S N others u (ν u)).0 s.like))
      from e (inr (inl s)) = inr (shared e s (searched.found s.model s.there))
      from e (inr (inr o)) = inr (u, e, o, named u e ∙ o.own, (refl, λ f. refl))

      go : (b : Bool) → is_subtree t u ≡ b → ByState u ⊎ ByRoot u
      go true e = from e (searched.found u e)
      go false e = inl (by_state u (run A u) (others u e) (outside-free u e) (outside-like u e))

  -- ---- trees of one name agree

  same-like : (u v : Tree) → N u ≡ N v → LikeTree u v
  same-like u v e = go (kind u) (kind v)
    where
      go : ByState u ⊎ ByRoot u → ByState v ⊎ ByRoot v → LikeTree u v
      go (inl (x, (c, h))) (inl (y, (d, k))) =
          (c ∙ ap (accepting A) e ∙ sym d, λ f. h f ∙ ap (step_frame A f) e ∙ sym (k f))
      go (inl (x, l)) (inr (r, i, o, w, k)) = absurd (own-above r i (subst (Free A t) (e ∙ w) x))
      go (inr (r, i, o, w, k)) (inl (x, l)) = absurd (own-above r i (subst (Free A t) (sym e ∙ w) x))
      go (inr (r, i, o, w, k)) (inr (r', i', o', w', k')) =
          let same = own-one r r' i i' (sym w ∙ e ∙ w') in
          through u r v k (subst (λ (x : Tree). LikeTree x v) (sym same) (back v r' k'))

  -- ---- trees that agree have one name

  -- subtrees with own names do not agree, unless they are the same
  own-apart : (r s : Tree) → is_subtree t r ≡ true → is_subtree t s ≡ true → OwnName A t S number ν r →
      OwnName A t S number ν s → LikeTree r s → r ≡ s
  own-apart r s i j x y l = go (ltb (number r) (number s)) refl (ltb (number s) (number r)) refl
    where
      less : (u v : Tree) → is_subtree t v ≡ true → OwnName A t S number ν u → OwnName A t S number ν v →
          number u < number v → LikeTree u v → ⊥
      less u v k o p h a =
          true≢false (sym ((like-subtree A fit t S N others u v).1 a) ∙ o.no-subtree v k h p.own)

      go : (b : Bool) → ltb (number r) (number s) ≡ b → (c : Bool) → ltb (number s) (number r) ≡ c → r ≡ s
      go true e c d = absurd (less r s j x y (ltb-true (number r) (number s) e) l)
      go false e true d = absurd (less s r i y x (ltb-true (number s) (number r) d) (back r s l))
      go false e false d =
          numbers.injective r s i j
          (omega (arith, ltb-false (number r) (number s) e, ltb-false (number s) (number r) d))

  no-free : (r : Tree) → OwnName A t S number ν r → (q : ℕ) → Free A t q → LikeState r q → ⊥
  no-free r o q x l = true≢false (sym ((like-state A fit t S N others r q).1 l) ∙ o.no-state q x)

  like-same : (u v : Tree) → LikeTree u v → N u ≡ N v
  like-same u v l = go (kind u) (kind v)
    where
      go : ByState u ⊎ ByRoot u → ByState v ⊎ ByRoot v → N u ≡ N v
      go (inl (x, (c, h))) (inl (y, (d, k))) =
          same-state S₀ A X t (N u) (N v) x y (sym c ∙ l.0 ∙ d) (λ f. sym (h f) ∙ l.1 f ∙ k f)
      go (inl (x, a)) (inr (r, i, o, w, k)) =
          absurd (no-free r o (N u) x (to-state r u (N u) (through r v u (back v r k) (back u v l)) a))
      go (inr (r, i, o, w, k)) (inl (x, a)) =
          absurd (no-free r o (N v) x (to-state r v (N v) (through r u v (back u r k) l) a))
      go (inr (r, i, o, w, k)) (inr (r', i', o', w', k')) =
          w
          ∙ ap (λ (x : Tree). states A + number x)
          (own-apart r r' i i' o o' (through r u r' (back u r k) (through u v r' l k')))
          ∙ sym w'

  -- ---- the name 0

  none-like : (u : Tree) → N u ≡ 0 → LikeState u 0
  none-like u e = go (kind u)
    where
      go : ByState u ⊎ ByRoot u → LikeState u 0
      go (inl (x, l)) = subst (LikeState u) e l
      go (inr (r, i, o, w, k)) = absurd (omega (arith, w, e, numbers.positive r i))

  frame-zero : (f : Frame) → step_frame A f 0 ≡ 0
  frame-zero f = step-zero A f.label (runs A f.before) (runs A f.after)

  some-used : (u : Tree) → N u ≢ 0 → (S u ≡ true) ⊎ ((f : Frame) × (N (fill f u) ≢ 0))
  some-used u ne = go (kind u)
    where
      state : (q : ℕ) → LikeState u q → (c : Context) → accepting A (run_context A c q) ≡ true →
          (S u ≡ true) ⊎ ((f : Frame) × (N (fill f u) ≢ 0))
      state q (d, k) [] h = inl (d ∙ h)
      state q (d, k) (f ∷ c) h =
          inr (
            f,
            λ z. true≢false
                (sym h ∙ ap (λ (n : ℕ). accepting A (run_context A c n)) (sym (k f) ∙ z)
                ∙ ap (accepting A) (run_context-zero A c)),
          )

      root : (r : Tree) → LikeTree u r → (S r ≢ false) ⊎ ((f : Frame) × (N (fill f r) ≢ step_frame A f 0)) →
          (S u ≡ true) ⊎ ((f : Frame) × (N (fill f u) ≢ 0))
      root r (d, k) (inl n) = inl (d ∙ set (S r) refl)
        where
          set : (b : Bool) → S r ≡ b → S r ≡ true
          set true e = e
          set false e = absurd (n e)
      root r (d, k) (inr (f, n)) = inr (f, λ z. n (sym (k f) ∙ z ∙ sym (frame-zero f)))

      go : ByState u ⊎ ByRoot u → (S u ≡ true) ⊎ ((f : Frame) × (N (fill f u) ≢ 0))
      go (inl (x, l)) = free (used S₀ A X t (N u) x)
        where
          free : (N u ≡ 0) ⊎ ((w : Tree) × (run A w ≡ N u) × Subtree S₀ w) →
              (S u ≡ true) ⊎ ((f : Frame) × (N (fill f u) ≢ 0))
          free (inl z) = absurd (ne z)
          free (inr (w, e, s)) = state (N u) l s.0 (accepted S₀ A X t (N u) w e s)
      go (inr (r, i, o, w, k)) = root r k (unlike-state A fit t S N others r 0 (o.no-state 0 (inl refl)))

  unused : (u : Tree) → S u ≡ false → ((f : Frame) → N (fill f u) ≡ 0) → N u ≡ 0
  unused u c h = go (eqb (N u) 0) refl
    where
      go : (b : Bool) → eqb (N u) 0 ≡ b → N u ≡ 0
      go true e = eqb-true (N u) 0 e
      go false e = absurd (used-not (some-used u (eqb-false (N u) 0 e)))
        where
          used-not : (S u ≡ true) ⊎ ((f : Frame) × (N (fill f u) ≢ 0)) → ⊥
          used-not (inl d) = true≢false (sym d ∙ c)
          used-not (inr (f, n)) = n (h f)

  -- what the search found names the trees of the changed set
  pub searched-naming : Naming A t S (name_of A t ν)
  searched-naming = record {
    others = others;
    classed = λ u v e. (same-like u v e).0;
    filled = λ u v e. (same-like u v e).1;
    told = λ u v i c h. like-same u v (c, h);
    none-classed = λ u e. (none-like u e).0;
    none_filled = λ u e f. (none-like u e).1 f ∙ frame-zero f;
    none_told = λ u i c h. unused u c h;
  }

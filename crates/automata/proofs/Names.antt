-- Names that agree exactly if class and every frame agree are groups of equivalent trees, so the transitions between
-- names give the canonical automaton of the changed set.
use mathlib.Core.Bool.{Bool, ◌&&◌, ◌||◌, and-false, and-true, cond, false, not, or-false, or-true, true, true≢false}
use mathlib.Core.List.{List, [], ◌∷◌}
use mathlib.Core.Logic.{◌⊎◌, ◌≢◌, inl, inr}
use mathlib.Core.Path.{◌∙◌, ◌≡◌, ap, fun_ext, refl, subst, sym}
use Prim.Native.Nat.{◌+◌, ◌-◌, ◌<◌, ◌≤◌, suc, zero, ℕ}
use native.Mathlib.Omega.{arith}
use Rattle.automata.specs.Automaton.{Automaton, Transition, run}
use Rattle.automata.specs.Canonical.{Canonical, Equivalent, Occurs, Subtree}
use Rattle.automata.specs.Change.{delete_tree, insert_tree, subtrees}
use Rattle.automata.specs.Names.{BetweenNames, Naming, QuotientOf, is_subtree}
use Rattle.automata.specs.Renumber.{renumbered}
use Rattle.lists.specs.Tests.{◌∈◌}
use Rattle.trees.specs.Context.{Context, Frame, fill, plug}
use Rattle.trees.specs.Tree.{Tree, ◌⧺◌, cons, depth, eq_tree, node}
use Rattle.automata.proofs.CanonicalChange.{delete-kept, insert-kept}
use Rattle.automata.proofs.CanonicalRun.{run-group, run-or-subtree}
use Rattle.automata.proofs.Change.{subtrees-closed}
use Rattle.automata.proofs.Renumbered.{Grouping, renumbered-canonical}
use Rattle.automata.proofs.SubtreeContexts.{subtrees-exact}
use Rattle.lists.proofs.Closure.{elem_in, in-elem}
use Rattle.lists.proofs.Tests.{test}
use Rattle.trees.proofs.Trees.{all_here, depth-plug, depths-here, eq_tree-same, eq_tree-true}

-- ---- subtrees of t

module _ (t : Tree) where
  pub subtree-in : (u : Tree) → is_subtree t u ≡ true → u ∈ subtrees t
  subtree-in u e = elem_in eq_tree eq_tree-true eq_tree-same u (subtrees t) e

  pub in-subtree : (u : Tree) → u ∈ subtrees t → is_subtree t u ≡ true
  in-subtree u i = in-elem eq_tree eq_tree-true eq_tree-same u (subtrees t) i

  pub other-in : (u : Tree) → is_subtree t u ≡ false → u ∈ subtrees t → ⊥
  other-in u e i = true≢false (sym (in-subtree u i) ∙ e)

  -- a frame over a tree that is no subtree gives no subtree
  pub fill-other : (f : Frame) (u : Tree) → is_subtree t u ≡ false → is_subtree t (fill f u) ≡ false
  fill-other f u e = go (is_subtree t (fill f u)) refl
    where
      go : (b : Bool) → is_subtree t (fill f u) ≡ b → is_subtree t (fill f u) ≡ false
      go false d = d
      go true d =
          absurd (other-in u e
          (all_here (λ s. s ∈ subtrees t) f.before u f.after
          (subtrees-closed t f.label (f.before ⧺ cons u f.after) (subtree-in (fill f u) d))))

  -- no context makes t of a tree that is no subtree
  pub plug-other : (c : Context) (u : Tree) → is_subtree t u ≡ false → eq_tree (plug c u) t ≡ false
  plug-other c u e = go (eq_tree (plug c u) t) refl
    where
      go : (b : Bool) → eq_tree (plug c u) t ≡ b → eq_tree (plug c u) t ≡ false
      go false d = d
      go true d = absurd (other-in u e (((subtrees-exact t).members u).1 (c, eq_tree-true (plug c u) t d)))

  subtree-depth : (u : Tree) → is_subtree t u ≡ true → depth u ≤ depth t
  subtree-depth u e = go (((subtrees-exact t).members u).0 (subtree-in u e))
    where
      go : (c : Context) × (plug c u ≡ t) → depth u ≤ depth t
      go (c, d) = omega (arith, depth-plug c u, ap depth d)

  -- how far a tree can still grow inside t
  unfoldable room : Tree → ℕ
  room u = cond (is_subtree t u) (suc (depth t) - depth u) 0

  room-other : (u : Tree) → is_subtree t u ≡ false → room u ≡ 0
  unfolding room
  room-other u e = rw e

  room-fill : (f : Frame) (u : Tree) → is_subtree t u ≡ true → room (fill f u) < room u
  unfolding room
  room-fill f u e = rw e (go (is_subtree t (fill f u)) refl)
    where
      go : (b : Bool) → is_subtree t (fill f u) ≡ b →
          cond b (suc (depth t) - depth (fill f u)) 0 < suc (depth t) - depth u
      go true d =
          omega (arith, subtree-depth (fill f u) d, depths-here f.before u f.after)
      go false d = omega (arith, subtree-depth u e)

  room-least : (f : Frame) (u : Tree) → room (fill f u) ≤ room u
  room-least f u = go (test (is_subtree t u))
    where
      go : (is_subtree t u ≡ true) ⊎ (is_subtree t u ≡ false) → room (fill f u) ≤ room u
      go (inl e) = omega (arith, room-fill f u e)
      go (inr e) = omega (arith, room-other (fill f u) (fill-other f u e))

-- ---- the changed set

-- equivalent trees run to one state, also if it is none
pub equivalent-run : (S : Tree → Bool) (A : Automaton) → Canonical S A → (u v : Tree) → Equivalent S u v →
    run A u ≡ run A v
equivalent-run S A X u v e = go (run-or-subtree S A X u) (run-or-subtree S A X v)
  where
    go : (run A u ≡ 0) ⊎ Subtree S u → (run A v ≡ 0) ⊎ Subtree S v → run A u ≡ run A v
    go (inl y) (inl z) = y ∙ sym z
    go (inl y) (inr (c, h)) =
        let p : Subtree S u = (c, e c ∙ h) in absurd (omega (arith, run-group S A X u p, X.range u p))
    go (inr (c, h)) (inl z) =
        let p : Subtree S v = (c, sym (e c) ∙ h) in absurd (omega (arith, run-group S A X v p, X.range v p))
    go (inr p) (inr q) = run-group S A X u p ∙ X.joins u v p q e ∙ sym (run-group S A X v q)

module _ (S₀ : Tree → Bool) (A : Automaton) (X : Canonical S₀ A) (t : Tree) (S : Tree → Bool)
    (agree : (v : Tree) → eq_tree v t ≡ false → S v ≡ S₀ v) where
  -- contexts of trees that are no subtrees of t see no change
  other-agree : (u : Tree) → is_subtree t u ≡ false → (c : Context) → S (plug c u) ≡ S₀ (plug c u)
  other-agree u e c = agree (plug c u) (plug-other t c u e)

  -- states stay apart
  pub others_apart : (u v : Tree) → is_subtree t u ≡ false → is_subtree t v ≡ false → Equivalent S u v → run A u ≡ run A v
  others_apart u v d e h =
      equivalent-run S₀ A X u v (λ c. sym (other-agree u d c) ∙ h c ∙ other-agree v e c)

  -- the changed set has a canonical automaton, which decides what occurs in it
  changed-canonical : (B : Automaton) × Canonical S B
  changed-canonical = go (S t) refl
    where
      go : (b : Bool) → S t ≡ b → (B : Automaton) × Canonical S B
      go true e = (
        insert_tree t A,
        subst (λ (T : Tree → Bool). Canonical T (insert_tree t A)) (fun_ext (λ v. same v (eq_tree v t) refl))
            (insert-kept S₀ A X t),
      )
        where
          same : (v : Tree) (b : Bool) → eq_tree v t ≡ b → (S₀ v || eq_tree v t) ≡ S v
          same v true d =
              ap (λ (b : Bool). S₀ v || b) d ∙ or-true (S₀ v) ∙ sym e ∙ ap S (sym (eq_tree-true v t d))
          same v false d = ap (λ (b : Bool). S₀ v || b) d ∙ or-false (S₀ v) ∙ sym (agree v d)
      go false e = (
        delete_tree t A,
        subst (λ (T : Tree → Bool). Canonical T (delete_tree t A)) (fun_ext (λ v. same v (eq_tree v t) refl))
            (delete-kept S₀ A X t),
      )
        where
          same : (v : Tree) (b : Bool) → eq_tree v t ≡ b → (S₀ v && not (eq_tree v t)) ≡ S v
          same v true d =
              ap (λ (b : Bool). S₀ v && not b) d ∙ and-false (S₀ v) ∙ sym e ∙ ap S (sym (eq_tree-true v t d))
          same v false d = ap (λ (b : Bool). S₀ v && not b) d ∙ and-true (S₀ v) ∙ sym (agree v d)

  module _ (N : Tree → ℕ) (M : Naming A t S N) where
    -- ---- one name, exactly if equivalent

    pub named-equivalent : (u v : Tree) → N u ≡ N v → Equivalent S u v
    named-equivalent u v e c = go c u v e
      where
        go : (c : Context) (u v : Tree) → N u ≡ N v → S (plug c u) ≡ S (plug c v)
        go [] u v e = M.classed u v e
        go (f ∷ c) u v e = go c (fill f u) (fill f v) (M.filled u v e f)

    equivalent-within : (n : ℕ) (u v : Tree) → room t u + room t v < n → Equivalent S u v → N u ≡ N v
    equivalent-within zero u v h e = absurd (omega arith)
    equivalent-within (suc n) u v h e =
        go (test (is_subtree t u)) (test (is_subtree t v)) (λ u v h e. equivalent-within n u v h e)
      where
        go : (is_subtree t u ≡ true) ⊎ (is_subtree t u ≡ false) → (is_subtree t v ≡ true) ⊎ (is_subtree t v ≡ false) →
            ((u v : Tree) → room t u + room t v < n → Equivalent S u v → N u ≡ N v) → N u ≡ N v
        go (inl p) q ih =
            M.told u v p (e []) (λ f. ih (fill f u) (fill f v)
            (omega (arith, room-fill t f u p, room-least t f v)) (λ c. e (f ∷ c)))
        go (inr p) (inl q) ih =
            sym (M.told v u q (sym (e [])) (λ f. ih (fill f v) (fill f u)
            (omega (arith, room-fill t f v q, room-least t f u)) (λ c. sym (e (f ∷ c)))))
        go (inr p) (inr q) ih = M.others u p ∙ others_apart u v p q e ∙ sym (M.others v q)

    pub equivalent-named : (u v : Tree) → Equivalent S u v → N u ≡ N v
    equivalent-named u v e = equivalent-within (suc (room t u + room t v)) u v (omega arith) e

    -- ---- no name, exactly if in no tree of the set

    pub unnamed-nowhere : (u : Tree) → N u ≡ 0 → Subtree S u → ⊥
    unnamed-nowhere u e (c, h) = go c u e h
      where
        go : (c : Context) (u : Tree) → N u ≡ 0 → S (plug c u) ≡ true → ⊥
        go [] u e h = true≢false (sym h ∙ M.none-classed u e)
        go (f ∷ c) u e h = go c (fill f u) (M.none_filled u e f) h

    nowhere-within : (n : ℕ) (u : Tree) → room t u < n → (Subtree S u → ⊥) → N u ≡ 0
    nowhere-within zero u h miss = absurd (omega arith)
    nowhere-within (suc n) u h miss = go (test (is_subtree t u)) (λ u h m. nowhere-within n u h m)
      where
        outside : (S u ≡ true) ⊎ (S u ≡ false) → S u ≡ false
        outside (inl d) = absurd (miss ([], d))
        outside (inr d) = d

        other : (run A u ≡ 0) ⊎ Subtree S₀ u → is_subtree t u ≡ false → run A u ≡ 0
        other (inl z) p = z
        other (inr (c, d)) p = absurd (miss (c, other-agree u p c ∙ d))

        go : (is_subtree t u ≡ true) ⊎ (is_subtree t u ≡ false) →
            ((u : Tree) → room t u < n → (Subtree S u → ⊥) → N u ≡ 0) → N u ≡ 0
        go (inl p) ih =
            M.none_told u p (outside (test (S u)))
            (λ f. ih (fill f u) (omega (arith, room-fill t f u p)) (λ (c, d). miss (f ∷ c, d)))
        go (inr p) ih = M.others u p ∙ other (run-or-subtree S₀ A X u) p

    pub named-somewhere : (u : Tree) → N u ≢ 0 → Subtree S u
    named-somewhere u h = let (B, Y) = changed-canonical in go B Y (run-or-subtree S B Y u)
      where
        go : (B : Automaton) (Y : Canonical S B) → (run B u ≡ 0) ⊎ Subtree S u → Subtree S u
        go B Y (inr p) = p
        go B Y (inl z) =
            absurd (h (nowhere-within (suc (room t u)) u (omega arith)
            (λ p. omega (arith, run-group S B Y u p, Y.range u p))))

    -- ---- the transitions between names

    pub names-grouping : (W : List Transition) → QuotientOf N W → Grouping S N W
    names-grouping W Q = record {
      joins = λ u v p q e. equivalent-named u v e;
      separates = λ u v p q e. named-equivalent u v e;
      occurs = λ a f p. Q.all a f (λ z. unnamed-nowhere (node a f) z p);
      only = λ τ i. from τ (Q.only τ i);
    }
      where
        from : (τ : Transition) → BetweenNames N τ → Occurs S N τ
        from τ (a, f, h, e) = (a, f, named-somewhere (node a f) h, e)

    pub names-canonical : (W : List Transition) → QuotientOf N W → (cls : ℕ → Bool) →
        ((u : Tree) → Subtree S u → cls (N u) ≡ S u) → Canonical S (renumbered cls W)
    names-canonical W Q cls right = renumbered-canonical S N W (names-grouping W Q) cls right

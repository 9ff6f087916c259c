-- The states that a subtree is compared with: no two of a canonical automaton agree in class and in every frame.
use mathlib.Core.Bool.{Bool, true, true≢false}
use mathlib.Core.List.{[], ◌∷◌}
use mathlib.Core.Logic.{◌⊎◌, inl, inr}
use mathlib.Core.Path.{◌∙◌, ◌≡◌, ap, sym}
use Prim.Native.Nat.{◌≤◌, ℕ}
use native.Mathlib.Omega.{arith}
use Rattle.automata.specs.Automaton.{Automaton, accepting, run, states}
use Rattle.automata.specs.Canonical.{Canonical, Subtree}
use Rattle.automata.specs.ContextRun.{run_context, step_frame}
use Rattle.automata.specs.Searched.{Free}
use Rattle.trees.specs.Context.{Context, Frame, plug}
use Rattle.trees.specs.Tree.{Tree}
use Rattle.automata.proofs.CanonicalChange.{alike, canonical-fits}
use Rattle.automata.proofs.CanonicalRun.{canonical-accepts, run-group, run-or-subtree}
use Rattle.automata.proofs.Distinguishable.{run_fits}
use Rattle.automata.proofs.StatePairs.{open-tree}
use Rattle.automata.proofs.Steps.{accepts-plug, run_context-zero}

module _ (S : Tree → Bool) (A : Automaton) (X : Canonical S A) (t : Tree) where
  -- a free state is 0 or that of a subtree of the set
  pub used : (q : ℕ) → Free A t q → (q ≡ 0) ⊎ ((w : Tree) × (run A w ≡ q) × Subtree S w)
  used q (inl e) = inl e
  used q (inr o) = let (w, e, miss) = open-tree A (canonical-fits S A X) t q o in go w e (run-or-subtree S A X w)
    where
      go : (w : Tree) → run A w ≡ q → (run A w ≡ 0) ⊎ Subtree S w →
          (q ≡ 0) ⊎ ((w : Tree) × (run A w ≡ q) × Subtree S w)
      go w e (inl z) = inl (sym e ∙ z)
      go w e (inr p) = inr (w, e, p)

  pub free-fits : (q : ℕ) → Free A t q → q ≤ states A
  free-fits q (inl e) = omega arith
  free-fits q (inr o) =
      let (w, e, miss) = open-tree A (canonical-fits S A X) t q o in
      omega (arith, e, run_fits A (canonical-fits S A X) w)

  -- the context of a used state does not accept 0
  pub accepted : (q : ℕ) (w : Tree) → run A w ≡ q → (s : Subtree S w) → accepting A (run_context A s.0 q) ≡ true
  accepted q w e (c, h) = sym (accepts-plug A c w e) ∙ canonical-accepts S A X (plug c w) ∙ h

  -- free states that agree in class and in every frame are equal
  pub same-state : (p q : ℕ) → Free A t p → Free A t q → accepting A p ≡ accepting A q →
      ((f : Frame) → step_frame A f p ≡ step_frame A f q) → p ≡ q
  same-state p q x y class frames = go (used p x) (used q y)
    where
      contexts : (c : Context) → accepting A (run_context A c p) ≡ accepting A (run_context A c q)
      contexts [] = class
      contexts (f ∷ c) = ap (λ (n : ℕ). accepting A (run_context A c n)) (frames f)

      zero-not : (c : Context) (n : ℕ) → n ≡ 0 → accepting A (run_context A c n) ≡ true → ⊥
      zero-not c n z h =
          true≢false (sym h ∙ ap (λ (m : ℕ). accepting A (run_context A c m)) z
          ∙ ap (accepting A) (run_context-zero A c))

      go : (p ≡ 0) ⊎ ((w : Tree) × (run A w ≡ p) × Subtree S w) →
          (q ≡ 0) ⊎ ((w : Tree) × (run A w ≡ q) × Subtree S w) → p ≡ q
      go (inl y) (inl z) = y ∙ sym z
      go (inl z) (inr (w, e, s)) = absurd (zero-not s.0 p z (contexts s.0 ∙ accepted q w e s))
      go (inr (w, e, s)) (inl z) = absurd (zero-not s.0 q z (sym (contexts s.0) ∙ accepted p w e s))
      go (inr (v, d, r)) (inr (w, e, s)) =
          sym d ∙ run-group S A X v r ∙ X.joins v w r s (alike S A X p q v w d e contexts)
          ∙ sym (run-group S A X w s) ∙ e

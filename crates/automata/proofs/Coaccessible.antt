-- A state is coaccessible exactly when some context takes it to an accepting state.
use mathlib.Core.Bool.{Bool, ◌&&◌, true, true≢false}
use mathlib.Core.List.{List, [], ◌++◌, ◌∷◌}
use mathlib.Core.Logic.{◌≢◌, ◌⊎◌, inl, inr}
use mathlib.Core.Path.{◌∙◌, ◌≡◌, ap, refl, sym}
use Prim.Native.Nat.{◌≤◌, ℕ}
use native.Mathlib.Omega.{arith}
use lib.Dec.{eqb}
use borrow.Author.Tests.{eqb-true}
use Rattle.automata.specs.Automaton.{Automaton, Fits, Transition, accepting, run, runs, states}
use Rattle.automata.specs.Coaccessible.{Useful, coaccessible, coaccessible_rule}
use Rattle.automata.specs.ContextRun.{run_context, step_frame}
use Rattle.automata.specs.Order.{rising}
use Rattle.lists.specs.Closure.{elem}
use Rattle.lists.specs.Positions.{up_from}
use Rattle.lists.specs.Tests.{◌∈◌, any}
use Rattle.trees.specs.Context.{Context, Frame}
use Rattle.trees.specs.Tree.{Tree}
use Rattle.automata.proofs.Accessible.{forest}
use Rattle.automata.proofs.Distinguishable.{step_fits}
use Rattle.automata.proofs.Order.{lookup-transition}
use Rattle.automata.proofs.Steps.{Taken, run_context-zero, step-view}
use Rattle.lists.proofs.Closure.{closed, closure-all, elem_in, in-elem}
use Rattle.lists.proofs.Positions.{in-up_from}
use Rattle.lists.proofs.Tests.{and_both, and_left, and_right, any-in, eqb_same, in-any, in_append_left}
use Rattle.lists.proofs.Tests.{in_append_right, in_split, none-zero, or_cases, or_left, or_right}

module _ (A : Automaton) (rises : rising A.transitions ≡ true) where
  -- every argument of a transition is a state that some tree runs to
  module _ (all : (τ : Transition) → τ ∈ A.transitions → (q : ℕ) → q ∈ τ.args →
      (1 ≤ q) × ((t : Tree) × (run A t ≡ q))) where
    -- a transition with q among its arguments is a frame that takes q to its output
    frame : (τ : Transition) → τ ∈ A.transitions → (q : ℕ) → q ∈ τ.args → (f : Frame) × (step_frame A f q ≡ τ.out)
    frame τ i q j = go (in_split τ.args q j)
      where
        go : (l : List ℕ) × (r : List ℕ) × (τ.args ≡ l ++ (q ∷ r)) → (f : Frame) × (step_frame A f q ≡ τ.out)
        go (l, r, e) =
            let b = forest A l (λ p n. (all τ i p (rw e (in_append_left l (q ∷ r) p n))).1) in
            let c = forest A r (λ p n. (all τ i p (rw e (in_append_right l (q ∷ r) p (inr n)))).1) in
            let z = none-zero τ.args (λ p n. (all τ i p n).0) in (
              record { label = τ.label; before = b.0; after = c.0 },
              rw (b.1, c.1, ← e, z) (lookup-transition A.transitions rises τ i),
            )

    pub coaccessible-useful : (q : ℕ) → coaccessible A q ≡ true → Useful A q
    coaccessible-useful =
        closure-all eqb eqb-true eqb_same (coaccessible_rule A) (up_from 1 (states A)) (Useful A) made
      where
        made : (m : ℕ → Bool) → ((j : ℕ) → m j ≡ true → Useful A j) → (k : ℕ) → k ∈ up_from 1 (states A) →
            coaccessible_rule A m k ≡ true → Useful A k
        made m ih k i e = go (or_cases (accepting A k) _ e)
          where
            used : (τ : Transition) × (τ ∈ A.transitions) × ((m τ.out && elem eqb k τ.args) ≡ true) → Useful A k
            used (τ, j, h) =
                let c = ih τ.out (and_left _ _ h) in
                let f = frame τ j k (elem_in eqb eqb-true eqb_same k τ.args (and_right (m τ.out) _ h)) in
                (f.0 ∷ c.0, rw f.1 c.1)

            go : (accepting A k ≡ true) ⊎ (any (λ τ. m τ.out && elem eqb k τ.args) A.transitions ≡ true) →
                Useful A k
            go (inl h) = ([], h)
            go (inr h) = used (any-in (λ τ. m τ.out && elem eqb k τ.args) A.transitions h)

module _ (A : Automaton) (fit : Fits A) where
  pub useful-coaccessible : (c : Context) (q : ℕ) → 1 ≤ q → q ≤ states A → accepting A (run_context A c q) ≡ true →
      coaccessible A q ≡ true
  useful-coaccessible [] q h l e =
      closed eqb eqb-true eqb_same (coaccessible_rule A) (up_from 1 (states A)) q
      (in-up_from 1 (states A) q h (omega arith)) (or_left (accepting A q) _ e)
  useful-coaccessible (f ∷ c) q h l e =
      go (step-view A f.label (runs A f.before ++ (q ∷ runs A f.after)))
      (λ z. useful-coaccessible c (step_frame A f q) z
      (step_fits A fit f.label (runs A f.before ++ (q ∷ runs A f.after))) e)
    where
      -- what comes to 0 comes to no accepting state
      lost : step_frame A f q ≡ 0 → ⊥
      lost z =
          true≢false
          (sym e ∙ ap (λ (x : ℕ). accepting A (run_context A c x)) z ∙ ap (accepting A) (run_context-zero A c))

      go : (step_frame A f q ≡ 0) ⊎ Taken A f.label (runs A f.before ++ (q ∷ runs A f.after)) →
          (1 ≤ step_frame A f q → coaccessible A (step_frame A f q) ≡ true) → coaccessible A q ≡ true
      go (inl z) ih = absurd (lost z)
      go (inr (n, (τ, i, p, a, o))) ih =
          let ne : step_frame A f q ≢ 0 = lost in
          let m : coaccessible A τ.out ≡ true = rw o (ih (omega arith)) in
          let j : q ∈ τ.args = rw a (in_append_right (runs A f.before) (q ∷ runs A f.after) q (inl refl)) in
          closed eqb eqb-true eqb_same (coaccessible_rule A) (up_from 1 (states A)) q
          (in-up_from 1 (states A) q h (omega arith))
          (or_right (accepting A q) _
          (in-any (λ τ. coaccessible A τ.out && elem eqb q τ.args) A.transitions τ i
          (and_both m (in-elem eqb eqb-true eqb_same q τ.args j))))

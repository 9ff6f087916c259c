-- The uses of two states outside a list of frames agree exactly if the slots that it does not cover do.
use mathlib.Core.Bool.{Bool, beq, ◌&&◌, ◌||◌, false, not, true, true≢false}
use mathlib.Core.List.{List, [], ◌++◌, ◌∷◌}
use mathlib.Core.Logic.{◌≢◌, ◌⊎◌, inl, inr}
use mathlib.Core.Path.{◌∙◌, ◌≡◌, ap, refl, subst, sym}
use Prim.Native.Nat.{◌≤◌, ℕ}
use native.Mathlib.Omega.{arith}
use lib.Dec.{eqb}
use borrow.Author.Tests.{eqb-false, eqb-true}
use Rattle.automata.specs.Alike.{covered, eq_frame, state_slot, uses_agree}
use Rattle.automata.specs.Automaton.{Automaton, Fits, runs}
use Rattle.automata.specs.ContextRun.{step_frame}
use Rattle.automata.specs.Distinguishable.{Slot, slots, step_slot}
use Rattle.lists.specs.Closure.{elem}
use Rattle.lists.specs.Tests.{◌∈◌, any, every}
use Rattle.trees.specs.Context.{Frame}
use Rattle.trees.specs.Tree.{Tree, ◌⧺◌}
use Rattle.automata.proofs.Distinguishable.{differ, in-slots, slot}
use Rattle.automata.proofs.Frames.{eq_frame-same, eq_frame-true}
use Rattle.automata.proofs.Liftings.{covered-in, uncovered-frame}
use Rattle.automata.proofs.PairForests.{run-pairs}
use Rattle.automata.proofs.Steps.{Taken, runs_append, step-view}
use Rattle.automata.proofs.SubtreeNodes.{InTree}
use Rattle.lists.proofs.Closure.{elem_in, in-elem}
use Rattle.lists.proofs.Tests.{and_left, and_right, append-in, every_in, in-any, in_append_left, in_append_right}
use Rattle.lists.proofs.Tests.{or_cases, or-none-left, or-none-right}

-- a test that not every element passes
every-misses : {X : Type 0} (p : X → Bool) (xs : List X) → every p xs ≡ false → (x : X) × (x ∈ xs) × (p x ≡ false)
every-misses p [] e = absurd (true≢false e)
every-misses {X} p (x ∷ xs) e = go (λ d. every-misses p xs d) (p x) refl e
  where
    go : (every p xs ≡ false → (y : X) × (y ∈ xs) × (p y ≡ false)) → (b : Bool) → p x ≡ b →
        (b && every p xs) ≡ false → (y : X) × (y ∈ (x ∷ xs)) × (p y ≡ false)
    go ih true d h = let (y, i, f) = ih h in (y, inr i, f)
    go ih false d h = (x, inl refl, d)

and_cases : (a b : Bool) → (a && b) ≡ false → (a ≡ false) ⊎ (b ≡ false)
and_cases true b e = inr e
and_cases false b e = inl refl

beq-true : (a b : Bool) → beq a b ≡ true → a ≡ b
beq-true true true e = refl
beq-true true false e = absurd (true≢false (sym e))
beq-true false true e = absurd (true≢false (sym e))
beq-true false false e = refl

-- states that are not 0, with one of them left out
none-without : (l r : List ℕ) (p : ℕ) → any (eqb 0) (l ++ (p ∷ r)) ≡ false → (q : ℕ) → q ∈ (l ++ r) → 1 ≤ q
none-without l r p e q i = go (eqb 0 q) refl
  where
    around : (q ∈ l) ⊎ (q ∈ r) → q ∈ (l ++ (p ∷ r))
    around (inl j) = in_append_left l (p ∷ r) q j
    around (inr j) = in_append_right l (p ∷ r) q (inr j)

    go : (b : Bool) → eqb 0 q ≡ b → 1 ≤ q
    go true d = absurd (true≢false (sym (in-any (eqb 0) (l ++ (p ∷ r)) q (around (append-in l r q i)) d) ∙ e))
    go false d = let n = eqb-false 0 q d in omega arith

module _ (A : Automaton) (fit : Fits A) (t : Tree) (F : List Frame)
    (within : (f : Frame) → f ∈ F → InTree A t (f.before ⧺ f.after)) (p q : ℕ) where
  pub agree-outside : uses_agree A t F p q ≡ true → (f : Frame) → (f ∈ F → ⊥) → step_frame A f p ≡ step_frame A f q
  unfolding uses_agree
  agree-outside h f miss =
      go (step-view A f.label (runs A f.before ++ (p ∷ runs A f.after)))
      (step-view A f.label (runs A f.before ++ (q ∷ runs A f.after)))
    where
      Stepped : ℕ → Type 0
      Stepped r = Taken A f.label (runs A f.before ++ (r ∷ runs A f.after))

      by : (r : ℕ) → Stepped r → step_frame A f p ≡ step_frame A f q
      by r (n, (τ, i, a, b, o)) =
          let in-slot : state_slot A f ∈ slots A.transitions =
          subst (λ (l : ℕ). slot l (runs A f.before) (runs A f.after) ∈ slots A.transitions) a
          (in-slots A.transitions τ (runs A f.before) r (runs A f.after) i b) in
          pick (or_cases (covered A t (state_slot A f) F) (eqb (step_frame A f p) (step_frame A f q))
          (every_in (λ π. covered A t π F || eqb (step_slot A π p) (step_slot A π q)) (slots A.transitions) h
          (state_slot A f) in-slot))
        where
          states : (s : ℕ) → s ∈ runs A (f.before ⧺ f.after) → 1 ≤ s
          states s j =
              none-without (runs A f.before) (runs A f.after) r n s
              (subst (λ (ss : List ℕ). s ∈ ss) (runs_append A f.before f.after) j)

          pick : (covered A t (state_slot A f) F ≡ true) ⊎ (eqb (step_frame A f p) (step_frame A f q) ≡ true) →
              step_frame A f p ≡ step_frame A f q
          pick (inl c) =
              absurd (miss (covered-in A fit t F within (state_slot A f) c f refl
              (run-pairs A t fit (f.before ⧺ f.after) states)))
          pick (inr e) = eqb-true (step_frame A f p) (step_frame A f q) e

      go : (step_frame A f p ≡ 0) ⊎ Stepped p → (step_frame A f q ≡ 0) ⊎ Stepped q → step_frame A f p ≡ step_frame A f q
      go (inl y) (inl z) = y ∙ sym z
      go (inl y) (inr u) = by q u
      go (inr u) z = by p u

  pub differ-outside : uses_agree A t F p q ≡ false →
      (f : Frame) × (f ∈ F → ⊥) × (step_frame A f p ≢ step_frame A f q)
  unfolding uses_agree
  differ-outside h =
      let (π, i, e) = every-misses (λ π. covered A t π F || eqb (step_slot A π p) (step_slot A π q))
      (slots A.transitions) h in
      let (f, s, miss) = uncovered-frame A fit t F within π
      (or-none-left (covered A t π F) (eqb (step_slot A π p) (step_slot A π q)) e) in (
        f,
        miss,
        subst (λ (ρ : Slot). step_slot A ρ p ≢ step_slot A ρ q) (sym s)
            (eqb-false (step_slot A π p) (step_slot A π q)
            (or-none-right (covered A t π F) (eqb (step_slot A π p) (step_slot A π q)) e)),
      )

  -- classes and names that are steps outside the list, compared by the list and the slots
  module _ (b c : Bool) (x y : Frame → ℕ) (left : (f : Frame) → (f ∈ F → ⊥) → x f ≡ step_frame A f p)
      (right : (f : Frame) → (f ∈ F → ⊥) → y f ≡ step_frame A f q) where
    abbrev test : Bool
    test = beq b c && every (λ f. eqb (x f) (y f)) F && uses_agree A t F p q

    pub agreeing : test ≡ true → (b ≡ c) × ((f : Frame) → x f ≡ y f)
    agreeing h = (beq-true b c (and_left _ _ both), λ f. name f (elem eq_frame f F) refl)
      where
        both : (beq b c && every (λ f. eqb (x f) (y f)) F) ≡ true
        both = and_left (beq b c && every (λ f. eqb (x f) (y f)) F) (uses_agree A t F p q) h

        name : (f : Frame) (d : Bool) → elem eq_frame f F ≡ d → x f ≡ y f
        name f true e =
            eqb-true (x f) (y f)
            (every_in (λ f. eqb (x f) (y f)) F (and_right (beq b c) _ both) f
            (elem_in eq_frame eq_frame-true eq_frame-same f F e))
        name f false e =
            let miss : f ∈ F → ⊥ = λ i. true≢false (sym (in-elem eq_frame eq_frame-true eq_frame-same f F i) ∙ e) in
            left f miss
            ∙ agree-outside (and_right (beq b c && every (λ f. eqb (x f) (y f)) F) (uses_agree A t F p q) h) f miss
            ∙ sym (right f miss)

    pub differing : test ≡ false → (b ≢ c) ⊎ ((f : Frame) × (x f ≢ y f))
    differing h = go (and_cases (beq b c && every (λ f. eqb (x f) (y f)) F) (uses_agree A t F p q) h)
      where
        parts : (beq b c ≡ false) ⊎ (every (λ f. eqb (x f) (y f)) F ≡ false) →
            (b ≢ c) ⊎ ((f : Frame) × (x f ≢ y f))
        parts (inl e) = inl (differ b c (ap not e))
        parts (inr e) =
            let (f, i, d) = every-misses (λ f. eqb (x f) (y f)) F e in inr (f, eqb-false (x f) (y f) d)

        go : ((beq b c && every (λ f. eqb (x f) (y f)) F) ≡ false) ⊎ (uses_agree A t F p q ≡ false) →
            (b ≢ c) ⊎ ((f : Frame) × (x f ≢ y f))
        go (inl e) = parts (and_cases (beq b c) (every (λ f. eqb (x f) (y f)) F) e)
        go (inr e) =
            let (f, miss, ne) = differ-outside e in
            inr (f, λ d. ne (sym (left f miss) ∙ d ∙ right f miss))

    pub agreed : (b ≡ c) × ((f : Frame) → x f ≡ y f) → test ≡ true
    agreed (e, names) = go test refl
      where
        none : (b ≢ c) ⊎ ((f : Frame) × (x f ≢ y f)) → ⊥
        none (inl ne) = ne e
        none (inr (f, ne)) = ne (names f)

        go : (d : Bool) → test ≡ d → test ≡ true
        go true h = h
        go false h = absurd (none (differing h))

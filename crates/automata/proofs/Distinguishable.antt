-- Two states are distinguishable exactly when some context separates them.
use mathlib.Core.Bool.{Bool, beq, false, false≢true, not, true, true≢false}
use mathlib.Core.List.{List, [], ◌++◌, ◌∷◌}
use mathlib.Core.Logic.{◌≢◌, ◌⊎◌, inl, inr}
use mathlib.Core.Path.{◌≡◌, ap, refl}
use Prim.Native.Nat.{◌≤◌, suc, ℕ}
use native.Mathlib.Omega.{arith}
use lib.Dec.{leb}
use borrow.Author.Tests.{leb-true}
use Rattle.automata.specs.Accessible.{ArgsAccessible}
use Rattle.automata.specs.Automaton.{Automaton, Fits, Transition, accepting, run, runs, states, step}
use Rattle.automata.specs.ContextRun.{run_context, step_frame}
use Rattle.automata.specs.Distinguishable.{Separated, Slot, distinguishable, distinguishable_pairs}
use Rattle.automata.specs.Distinguishable.{distinguishable_rule}
use Rattle.automata.specs.Distinguishable.{pairs, push, slots, slots_of, step_slot}
use Rattle.lists.specs.Closure.{elem}
use Rattle.lists.specs.Positions.{Pair, eq_pair, up_from}
use Rattle.lists.specs.Tests.{◌∈◌, any}
use Rattle.trees.specs.Context.{Context, Frame}
use Rattle.trees.specs.Tree.{Tree, node}
use Rattle.automata.proofs.Accessible.{forest}
use Rattle.automata.proofs.Steps.{Taken, step-view}
use Rattle.lists.proofs.Closure.{closed, closure-all}
use Rattle.lists.proofs.Positions.{eq_pair-same, eq_pair-true, in-grid, in-up_from}
use Rattle.lists.proofs.Tests.{any-in, append-in, every_in, in-any, in_append_left, in_append_right, in_map, map-in}
use Rattle.lists.proofs.Tests.{or_cases, or_left, or_right}

-- every transition gives its slots, and every slot is of a transition
abbrev pub slot : ℕ → List ℕ → List ℕ → Slot
slot a l r = record { label = a; before = l; after = r }

in-slots_of : (a : ℕ) (l : List ℕ) (q : ℕ) (r : List ℕ) → slot a l r ∈ slots_of a (l ++ (q ∷ r))
in-slots_of a [] q r = inl refl
in-slots_of a (p ∷ l) q r =
    inr (in_map (push p) (slots_of a (l ++ (q ∷ r))) (slot a l r) (in-slots_of a l q r))

slots_of-in : (a : ℕ) (qs : List ℕ) (s : Slot) → s ∈ slots_of a qs →
    (s.label ≡ a) × ((q : ℕ) × (qs ≡ s.before ++ (q ∷ s.after)))
slots_of-in a [] s x' = elim x' [ ]
slots_of-in a (q ∷ qs) s (inl e) = (ap (λ (s : Slot). s.label) e, (q, rw e))
slots_of-in a (q ∷ qs) s (inr m) = let r = map-in (push q) (slots_of a qs) s m in
    go r.0 r.2 (slots_of-in a qs r.0 r.1)
  where
    go : (u : Slot) → s ≡ push q u → (u.label ≡ a) × ((p : ℕ) × (qs ≡ u.before ++ (p ∷ u.after))) →
        (s.label ≡ a) × ((p : ℕ) × ((q ∷ qs) ≡ s.before ++ (p ∷ s.after)))
    go u e (h, (p, k)) = (rw e h, (p, rw e (ap (λ (x : List ℕ). q ∷ x) k)))

pub in-slots : (ls : List Transition) (l : Transition) (b : List ℕ) (q : ℕ) (c : List ℕ) → l ∈ ls →
    l.args ≡ b ++ (q ∷ c) → slot l.label b c ∈ slots ls
in-slots [] l b q c x'' h = elim x'' [ ]
in-slots (m ∷ ls) l b q c (inl e) h =
    in_append_left (slots_of m.label m.args) (slots ls) (slot l.label b c)
    (rw (← e, h) (in-slots_of l.label b q c))
in-slots (m ∷ ls) l b q c (inr i) h =
    in_append_right (slots_of m.label m.args) (slots ls) (slot l.label b c)
    (in-slots ls l b q c i h)

pub slots-in : (ls : List Transition) (s : Slot) → s ∈ slots ls →
    (l : Transition) × (l ∈ ls) × (s.label ≡ l.label) ×
    ((q : ℕ) × (l.args ≡ s.before ++ (q ∷ s.after)))
slots-in [] s m = elim m [ ]
slots-in (l ∷ ls) s m = go (append-in (slots_of l.label l.args) (slots ls) s m) (slots-in ls s)
  where
    go : (s ∈ slots_of l.label l.args) ⊎ (s ∈ slots ls) →
        (s ∈ slots ls →
        (k : Transition) × (k ∈ ls) × (s.label ≡ k.label) ×
        ((q : ℕ) × (k.args ≡ s.before ++ (q ∷ s.after)))) →
        (k : Transition) × (k ∈ (l ∷ ls)) × (s.label ≡ k.label) ×
        ((q : ℕ) × (k.args ≡ s.before ++ (q ∷ s.after)))
    go (inl i) ih = let r = slots_of-in l.label l.args s i in (l, inl refl, r.0, r.1)
    go (inr i) ih = let r = ih i in (r.0, inr r.1, r.2, r.3)

pub differ : (a b : Bool) → not (beq a b) ≡ true → a ≢ b
differ true true e q = false≢true e
differ true false e q = true≢false q
differ false true e q = false≢true q
differ false false e q = false≢true e

pub differs : (a b : Bool) → a ≢ b → not (beq a b) ≡ true
differs true true h = absurd (h refl)
differs true false h = refl
differs false true h = refl
differs false false h = absurd (h refl)

module _ (A : Automaton) where
  -- every argument of a transition has a tree
  module _ (all : ArgsAccessible A) where
    pub distinguishable-separated : (p q : ℕ) → distinguishable A p q ≡ true → Separated A (p, q)
    distinguishable-separated p q e =
        closure-all eq_pair eq_pair-true eq_pair-same (distinguishable_rule A) (pairs A) (Separated A) made (p, q) e
      where
        made : (m : Pair → Bool) → ((j : Pair) → m j ≡ true → Separated A j) → (k : Pair) → k ∈ pairs A →
            distinguishable_rule A m k ≡ true → Separated A k
        made m ih k i e =
            go (or_cases (not (beq (accepting A k.0) (accepting A k.1)))
            (any (λ s. m (step_slot A s k.0, step_slot A s k.1)) (slots A.transitions)) e)
          where
            framed : (s : Slot) → s ∈ slots A.transitions →
                (f : Frame) × ((q : ℕ) → step_frame A f q ≡ step_slot A s q)
            framed s j =
                let r = slots-in A.transitions s j in
                let b = forest A s.before
                (λ q n. all r.0 r.1 q
                (rw r.3.1 (in_append_left s.before (r.3.0 ∷ s.after) q n))) in
                let c = forest A s.after
                (λ q n. all r.0 r.1 q
                (rw r.3.1 (in_append_right s.before (r.3.0 ∷ s.after) q (inr n)))) in
                (record { label = s.label; before = b.0; after = c.0 }, λ q. rw (b.1, c.1))

            go : (not (beq (accepting A k.0) (accepting A k.1)) ≡ true) ⊎
                (any (λ s. m (step_slot A s k.0, step_slot A s k.1)) (slots A.transitions) ≡ true) →
                Separated A k
            go (inl h) = ([], differ (accepting A k.0) (accepting A k.1) h)
            go (inr h) =
                let r = any-in (λ s. m (step_slot A s k.0, step_slot A s k.1)) (slots A.transitions)
                h in
                let f = framed r.0 r.1 in
                let c = ih (step_slot A r.0 k.0, step_slot A r.0 k.1) r.2 in
                (f.0 ∷ c.0, rw (f.1 k.0, f.1 k.1) c.1)

  module _ (fit : Fits A) where
    in_pairs : (p q : ℕ) → p ≤ states A → q ≤ states A → ◌∈◌ {A = Pair} (p, q) (pairs A)
    in_pairs p q h k =
        in-grid (up_from 0 (suc (states A))) (up_from 0 (suc (states A))) p q
        (in-up_from 0 (suc (states A)) p (omega arith) (omega arith))
        (in-up_from 0 (suc (states A)) q (omega arith) (omega arith))

    pub step_fits : (a : ℕ) (qs : List ℕ) → step A a qs ≤ states A
    step_fits a qs = go (step-view A a qs)
      where
        go : (step A a qs ≡ 0) ⊎ Taken A a qs → step A a qs ≤ states A
        go (inl z) = omega arith
        go (inr (n, (l, i, p, q, r))) = let le =
            leb-true l.out (states A)
            (every_in (λ l. leb l.out (states A)) A.transitions fit l i) in omega arith

    pub run_fits : (t : Tree) → run A t ≤ states A
    run_fits (node a f) = step_fits a (runs A f)

    pub separated-distinguishable : (c : Context) (p q : ℕ) → p ≤ states A → q ≤ states A →
        accepting A (run_context A c p) ≢ accepting A (run_context A c q) → distinguishable A p q ≡ true
    separated-distinguishable [] p q h k d =
        closed eq_pair eq_pair-true eq_pair-same (distinguishable_rule A) (pairs A) (p, q) (in_pairs p q h k)
        (or_left _ _ (differs (accepting A p) (accepting A q) d))
    separated-distinguishable (f ∷ c) p q h k d =
        go (separated-distinguishable c (step_frame A f p) (step_frame A f q)
        (step_fits f.label (runs A f.before ++ (p ∷ runs A f.after)))
        (step_fits f.label (runs A f.before ++ (q ∷ runs A f.after))) d)
        (step-view A f.label (runs A f.before ++ (p ∷ runs A f.after)))
        (step-view A f.label (runs A f.before ++ (q ∷ runs A f.after)))
      where
        Stepped : ℕ → Type 0
        Stepped q = Taken A f.label (runs A f.before ++ (q ∷ runs A f.after))

        by : (r : ℕ) → distinguishable A (step_frame A f p) (step_frame A f q) ≡ true →
            (l : Transition) × (l ∈ A.transitions) × (l.label ≡ f.label) ×
            (l.args ≡ runs A f.before ++ (r ∷ runs A f.after)) × (l.out ≡ step_frame A f r) →
            distinguishable A p q ≡ true
        by r m (l, i, e, g, o) =
            closed eq_pair eq_pair-true eq_pair-same (distinguishable_rule A) (pairs A) (p, q)
            (in_pairs p q h k)
            (or_right (not (beq (accepting A p) (accepting A q))) _
            (in-any (λ s. elem eq_pair (step_slot A s p, step_slot A s q) (distinguishable_pairs A))
            (slots A.transitions) (slot l.label (runs A f.before) (runs A f.after))
            (in-slots A.transitions l (runs A f.before) r (runs A f.after) i g) (rw e m)))

        go : distinguishable A (step_frame A f p) (step_frame A f q) ≡ true →
            (step_frame A f p ≡ 0) ⊎ Stepped p → (step_frame A f q ≡ 0) ⊎ Stepped q → distinguishable A p q ≡ true
        go m (inl y) (inl z) = absurd (d (rw (y, z) refl))
        go m (inr (n, u)) z = by p m u
        go m (inl y) (inr (n, u)) = by q m u

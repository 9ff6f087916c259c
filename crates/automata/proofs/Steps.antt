-- What a step says of the transitions, and a run through a context.
use mathlib.Core.Bool.{Bool, cond, false, true, true≢false}
use mathlib.Core.List.{List, [], ◌++◌, ◌∷◌}
use mathlib.Core.Logic.{◌⊎◌, inl, inr}
use mathlib.Core.Path.{◌∙◌, ◌≡◌, ap, refl, sym}
use Prim.Native.Nat.{ℕ}
use lib.Dec.{eqb}
use borrow.Author.Tests.{eqb-true}
use Rattle.automata.specs.Automaton.{Automaton, Transition, accepting, accepts, lookup, matches, run, runs, step}
use Rattle.automata.specs.ContextRun.{run_context, step_frame}
use Rattle.lists.specs.Tests.{◌∈◌, any}
use Rattle.trees.specs.Context.{Context, Frame, fill, plug}
use Rattle.trees.specs.Tree.{Forest, Tree, ◌⧺◌, cons, nil}
use Rattle.lists.proofs.Tests.{and_both, and_left, and_right, eqb_same, in-any, in_append_right, same_list-refl}
use Rattle.lists.proofs.Tests.{same_list-true}

pub matches-true : (a : ℕ) (qs : List ℕ) (l : Transition) → matches a qs l ≡ true →
    (l.label ≡ a) × (l.args ≡ qs)
matches-true a qs l e = (
  sym (eqb-true a l.label (and_left _ _ e)),
  sym
      (same_list-true qs l.args (and_right (eqb a l.label) _ e)),
)

-- a transition of the list with this label, these arguments and this output
abbrev pub Has : List Transition → ℕ → List ℕ → ℕ → Type 0
Has τs a qs q = (τ : Transition) × (τ ∈ τs) × (τ.label ≡ a) × (τ.args ≡ qs) × (τ.out ≡ q)

-- a step is taken: no argument is 0, and a transition gives its output
abbrev pub Taken : Automaton → ℕ → List ℕ → Type 0
Taken A a qs = (any (eqb 0) qs ≡ false) × Has A.transitions a qs (step A a qs)

pub lookup-view : (a : ℕ) (qs : List ℕ) (ls : List Transition) →
    (lookup a qs ls ≡ 0) ⊎ (Has ls a qs (lookup a qs ls))
lookup-view a qs [] = inl refl
lookup-view a qs (l ∷ ls) = go (lookup-view a qs ls) (matches a qs l) refl
  where
    go : (lookup a qs ls ≡ 0) ⊎ (Has ls a qs (lookup a qs ls)) → (b : Bool) → matches a qs l ≡ b →
        (cond b l.out (lookup a qs ls) ≡ 0) ⊎ (Has (l ∷ ls) a qs (cond b l.out (lookup a qs ls)))
    go r true e = let f = matches-true a qs l e in inr (l, inl refl, f.0, f.1, refl)
    go (inl z) false e = inl z
    go (inr (m, i, p, q, r)) false e = inr (m, inr i, p, q, r)

pub step-view : (A : Automaton) (a : ℕ) (qs : List ℕ) → (step A a qs ≡ 0) ⊎ Taken A a qs
step-view A a qs = go (any (eqb 0) qs) refl (lookup-view a qs A.transitions)
  where
    go : (b : Bool) → any (eqb 0) qs ≡ b →
        (lookup a qs A.transitions ≡ 0) ⊎ (Has A.transitions a qs (lookup a qs A.transitions)) →
        (cond b 0 (lookup a qs A.transitions) ≡ 0) ⊎
        ((any (eqb 0) qs ≡ false) ×
        (Has A.transitions a qs (cond b 0 (lookup a qs A.transitions))))
    go true e r = inl refl
    go false e (inl z) = inl z
    go false e (inr u) = inr (e, u)

pub lookup-in : (ls : List Transition) (l : Transition) → l ∈ ls →
    (m : Transition) × (m ∈ ls) × (m.label ≡ l.label) × (m.args ≡ l.args) ×
    (lookup l.label l.args ls ≡ m.out)
lookup-in [] l i = elim i [ ]
lookup-in (x ∷ ls) l i = go (λ j. lookup-in ls l j) (matches l.label l.args x) refl i
  where
    go : (l ∈ ls →
        (m : Transition) × (m ∈ ls) × (m.label ≡ l.label) × (m.args ≡ l.args) ×
        (lookup l.label l.args ls ≡ m.out)) → (b : Bool) → matches l.label l.args x ≡ b →
        l ∈ (x ∷ ls) →
        (m : Transition) × (m ∈ (x ∷ ls)) × (m.label ≡ l.label) × (m.args ≡ l.args) ×
        (cond b x.out (lookup l.label l.args ls) ≡ m.out)
    go ih true e i = let f = matches-true l.label l.args x e in (x, inl refl, f.0, f.1, refl)
    go ih false e (inr j) = let u = ih j in (u.0, inr u.1, u.2, u.3, u.4)
    go ih false e (inl z) =
        absurd (true≢false
        (sym (and_both (eqb_same l.label) (same_list-refl l.args))
        ∙ ap (matches l.label l.args) z ∙ e))

pub runs_append : (A : Automaton) (f g : Forest) → runs A (f ⧺ g) ≡ runs A f ++ runs A g
runs_append A nil g = refl
runs_append A (cons t f) g = rw (runs_append A f g)

pub run-fill : (A : Automaton) (f : Frame) (t : Tree) → run A (fill f t) ≡ step_frame A f (run A t)
run-fill A f t = rw runs_append

pub run-plug : (A : Automaton) (c : Context) (t : Tree) → run A (plug c t) ≡ run_context A c (run A t)
run-plug A [] t = refl
run-plug A (f ∷ c) t = rw (run-plug A c (fill f t), run-fill A f t)

-- what a context makes of a tree depends on the tree's state
pub accepts-plug : (A : Automaton) (c : Context) (t : Tree) {q : ℕ} → run A t ≡ q →
    accepts A (plug c t) ≡ accepting A (run_context A c q)
accepts-plug A c t e = ap (accepting A) (run-plug A c t ∙ ap (run_context A c) e)

pub run_context-append : (A : Automaton) (c d : Context) (q : ℕ) →
    run_context A (c ++ d) q ≡ run_context A d (run_context A c q)
run_context-append A [] d q = refl
run_context-append A (f ∷ c) d q = run_context-append A c d (step_frame A f q)

-- "no state" stays
pub step-zero : (A : Automaton) (a : ℕ) (l r : List ℕ) → step A a (l ++ (0 ∷ r)) ≡ 0
step-zero A a l r = rw (in-any (eqb 0) (l ++ (0 ∷ r)) 0 (in_append_right l (0 ∷ r) 0 (inl refl)) refl)

pub run_context-zero : (A : Automaton) (c : Context) → run_context A c 0 ≡ 0
run_context-zero A [] = refl
run_context-zero A (f ∷ c) =
    rw (step-zero A f.label (runs A f.before) (runs A f.after)) (run_context-zero A c)

-- If transitions have legal labels and arities, so have accepted trees, and back.
use mathlib.Core.Bool.{Bool, false, true, true≢false}
use mathlib.Core.Logic.{◌⊎◌, inl, inr}
use mathlib.Core.Path.{◌∙◌, ◌≡◌, ap, refl, subst, subst₂, sym}
use Prim.Native.Nat.{suc, ℕ}
use lib.Dec.{eqb}
use lib.ListN.{length}
use borrow.Author.Tests.{eqb-false}
use Rattle.automata.specs.Automaton.{Automaton, Transition, accepting, accepts, run, runs, step}
use Rattle.automata.specs.Canonical.{Canonical, Occurs, each_tree}
use Rattle.automata.specs.Valid.{LegalTransitions}
use Rattle.lists.specs.Tests.{any}
use Rattle.trees.specs.Context.{plug}
use Rattle.trees.specs.Legal.{AllLegal, Legal, LegalNode}
use Rattle.trees.specs.Tree.{Forest, Tree, cons, count, nil, node}
use Rattle.automata.proofs.Steps.{Taken, step-view}
use Rattle.lists.proofs.Tests.{or-none-left, or-none-right}
use Rattle.trees.proofs.Legal.{subtree-legal}

pub runs-count : (A : Automaton) (f : Forest) → length (runs A f) ≡ count f
runs-count A nil = refl
runs-count A (cons t f) = ap suc (runs-count A f)

pub each-count : (g : Tree → ℕ) (f : Forest) → length (each_tree g f) ≡ count f
each-count g nil = refl
each-count g (cons t f) = ap suc (each-count g f)

module _ (A : Automaton) (legal : LegalTransitions A) where
  mutual
    run-legal : (t : Tree) → (run A t ≡ 0) ⊎ Legal t
    run-legal (node a f) = go (step-view A a (runs A f)) (λ e. runs-legal f e)
      where
        go : (step A a (runs A f) ≡ 0) ⊎ Taken A a (runs A f) → (any (eqb 0) (runs A f) ≡ false → AllLegal f) →
            (step A a (runs A f) ≡ 0) ⊎ (LegalNode a (count f) × AllLegal f)
        go (inl z) ih = inl z
        go (inr (n, (τ, i, p, q, r))) ih =
            inr (subst₂ LegalNode p (ap length q ∙ runs-count A f) (legal τ i), ih n)

    runs-legal : (f : Forest) → any (eqb 0) (runs A f) ≡ false → AllLegal f
    runs-legal nil e = tt
    runs-legal (cons t f) e = (go (run-legal t), runs-legal f (or-none-right (eqb 0 (run A t)) _ e))
      where
        go : (run A t ≡ 0) ⊎ Legal t → Legal t
        go (inl z) =
            absurd (eqb-false 0 (run A t) (or-none-left (eqb 0 (run A t)) (any (eqb 0) (runs A f)) e) (sym z))
        go (inr h) = h

  -- accepted trees have legal labels and arities
  pub accepted-legal : (t : Tree) → accepts A t ≡ true → Legal t
  accepted-legal t e = go (run-legal t)
    where
      go : (run A t ≡ 0) ⊎ Legal t → Legal t
      go (inl z) = absurd (true≢false (sym e ∙ ap (accepting A) z))
      go (inr h) = h

pub canonical-legal : (S : Tree → Bool) (A : Automaton) → Canonical S A → ((t : Tree) → S t ≡ true → Legal t) →
    LegalTransitions A
canonical-legal S A X legal τ i = go (X.only τ i)
  where
    go : Occurs S X.group τ → LegalNode τ.label (length τ.args)
    go (a, f, (c, h), e) =
        subst (λ (υ : Transition). LegalNode υ.label (length υ.args)) (sym e)
        (subst (LegalNode a) (sym (each-count X.group f)) (subtree-legal c (node a f) (legal (plug c (node a f))
        h)).0)

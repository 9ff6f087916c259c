-- The canonical automaton of a set accepts exactly the trees of the set.
use mathlib.Core.Bool.{Bool, false, true}
use mathlib.Core.List.{[]}
use mathlib.Core.Logic.{◌↔◌, ◌⊎◌, inl, inr}
use mathlib.Core.Path.{◌∙◌, ◌≡◌, ap, refl, subst, sym}
use Prim.Native.Nat.{ℕ}
use native.Mathlib.Omega.{arith}
use lib.Dec.{eqb}
use borrow.Author.Tests.{eqb-false, ne_eqb}
use Rattle.automata.specs.Automaton.{Automaton, accepting, accepts, run, runs, step}
use Rattle.automata.specs.Canonical.{Canonical, Occurs, Subtree, each_tree, transition_of}
use Rattle.lists.specs.Tests.{any}
use Rattle.trees.specs.Tree.{AllTrees, Forest, Tree, cons, nil, node}
use Rattle.automata.proofs.Order.{lookup-transition}
use Rattle.automata.proofs.Renumbered.{Grouping, equivalent-after}
use Rattle.automata.proofs.Steps.{Taken, step-view}
use Rattle.automata.proofs.Unique.{children}
use Rattle.lists.proofs.Tests.{or-none-left, or-none-right}

module _ (S : Tree → Bool) (A : Automaton) (X : Canonical S A) where
  grouping : Grouping S X.group A.transitions
  grouping = record { joins = X.joins; separates = X.separates; occurs = X.occurs; only = X.only }

  none-zero : (f : Forest) → AllTrees (Subtree S) f → any (eqb 0) (each_tree X.group f) ≡ false
  none-zero nil p = refl
  none-zero (cons t f) p =
      rw (ne_eqb 0 (X.group t) (λ e. omega (arith, X.range t p.0))) (none-zero f p.1)

  mutual
    pub run-group : (t : Tree) → Subtree S t → run A t ≡ X.group t
    run-group (node a f) p = go (runs-group f (children S a f p))
      where
        go : runs A f ≡ each_tree X.group f → step A a (runs A f) ≡ X.group (node a f)
        go e = rw (e, none-zero f (children S a f p))
            (lookup-transition A.transitions X.sorted (transition_of X.group a f) (X.occurs a f p))

    runs-group : (f : Forest) → AllTrees (Subtree S) f → runs A f ≡ each_tree X.group f
    runs-group nil p = refl
    runs-group (cons t f) p = cc (run-group t p.0, runs-group f p.1)

  mutual
    pub run-or-subtree : (t : Tree) → (run A t ≡ 0) ⊎ Subtree S t
    run-or-subtree (node a f) = go (step-view A a (runs A f)) (λ e. runs-subtrees f e)
      where
        go : (step A a (runs A f) ≡ 0) ⊎ Taken A a (runs A f) →
            (any (eqb 0) (runs A f) ≡ false → AllTrees (Subtree S) f) →
            (step A a (runs A f) ≡ 0) ⊎ Subtree S (node a f)
        go (inl z) ih = inl z
        go (inr (n, (l, i, u, v, w))) ih = inr (from (X.only l i))
          where
            from : Occurs S X.group l → Subtree S (node a f)
            from (b, h, p, e) =
                let ks = ih n in
                let same_list : each_tree X.group h ≡ each_tree X.group f = cc (runs-group f ks) in
                let lab : b ≡ a = cc in
                let alike = equivalent-after S X.group A.transitions grouping b nil h f
                (children S b h p) ks same_list in
                subst (λ (x : ℕ). Subtree S (node x f)) lab (p.0, sym (alike p.0) ∙ p.1)

    pub runs-subtrees : (f : Forest) → any (eqb 0) (runs A f) ≡ false → AllTrees (Subtree S) f
    runs-subtrees nil e = tt
    runs-subtrees (cons t f) e = (
      go (run-or-subtree t),
      runs-subtrees f
          (or-none-right (eqb 0 (run A t)) (any (eqb 0) (runs A f)) e),
    )
      where
        go : (run A t ≡ 0) ⊎ Subtree S t → Subtree S t
        go (inl z) =
            absurd (eqb-false 0 (run A t) (or-none-left (eqb 0 (run A t)) (any (eqb 0) (runs A f)) e)
            (sym z))
        go (inr p) = p

  -- a tree runs to a state exactly if it is a subtree of the set
  pub run-none-iff : (t : Tree) → (run A t ≡ 0) ↔ (Subtree S t → ⊥)
  run-none-iff t = (λ e p. omega (arith, run-group t p, X.range t p), λ h. go h (run-or-subtree t))
    where
      go : (Subtree S t → ⊥) → (run A t ≡ 0) ⊎ Subtree S t → run A t ≡ 0
      go h (inl z) = z
      go h (inr p) = absurd (h p)

  pub subtrees-run : (f : Forest) → AllTrees (Subtree S) f → any (eqb 0) (runs A f) ≡ false
  subtrees-run f p = rw (runs-group f p) (none-zero f p)

  pub canonical-accepts : (t : Tree) → accepts A t ≡ S t
  canonical-accepts t = go (run-or-subtree t) (S t) refl
    where
      go : (run A t ≡ 0) ⊎ Subtree S t → (b : Bool) → S t ≡ b → accepting A (run A t) ≡ S t
      go (inr p) b e = ap (accepting A) (run-group t p) ∙ X.classed t p
      go (inl z) true e = absurd (omega (arith, run-group t ([], e), X.range t ([], e)))
      go (inl z) false e = ap (accepting A) z ∙ sym e

-- PRODUCT: with the class of t's own pair set or cleared, the minimal product is canonical for the set
-- with t put in or taken out.
use mathlib.Core.Bool.{Bool, ◌&&◌, ◌||◌, false, not, true, true≢false}
use mathlib.Core.List.{[]}
use mathlib.Core.Path.{◌∙◌, ◌≡◌, ap, fun_ext, refl, subst, sym}
use Prim.Native.Nat.{ℕ}
use native.Mathlib.Omega.{arith}
use lib.Dec.{eqb}
use borrow.Author.Tests.{eq-eqb, ne_eqb}
use Rattle.automata.specs.Automaton.{Automaton, Fits, accepting, accepts}
use Rattle.automata.specs.Canonical.{Canonical}
use Rattle.automata.specs.Change.{delete_tree, insert_tree, product_with, subtree_automaton, subtree_number}
use Rattle.automata.specs.Change.{subtrees}
use Rattle.automata.specs.Minimal.{minimal}
use Rattle.automata.specs.Product.{product}
use Rattle.lists.specs.Positions.{Pair}
use Rattle.lists.specs.Tests.{◌∈◌}
use Rattle.trees.specs.Tree.{Tree, eq_tree}
use Rattle.automata.proofs.Minimal.{minimal-canonical}
use Rattle.automata.proofs.Product.{accepts-product, product-accessible, product-fits}
use Rattle.automata.proofs.Subtrees.{Closed, collected, run-subtree, subtree-fits}
use Rattle.lists.proofs.Positions.{position-inj, position-pos}
use Rattle.trees.proofs.Trees.{eq_tree-same, eq_tree-true}

module _ (t : Tree) where
  pub subtrees-closed : Closed (subtrees t)
  subtrees-closed = (collected t [] (λ a f i. absurd i)).0

  pub own-subtree : t ∈ subtrees t
  own-subtree = (collected t [] (λ a f i. absurd i)).2

  -- the test for the number of t is the test for t
  own-number : (u : Tree) → eqb (subtree_number (subtrees t) u) (subtree_number (subtrees t) t) ≡ eq_tree u t
  own-number u = go (eq_tree u t) refl
    where
      go : (b : Bool) → eq_tree u t ≡ b → eqb (subtree_number (subtrees t) u) (subtree_number (subtrees t) t) ≡ b
      go true e =
          eq-eqb (subtree_number (subtrees t) u) (subtree_number (subtrees t) t)
          (ap (subtree_number (subtrees t)) (eq_tree-true u t e))
      go false e =
          ne_eqb (subtree_number (subtrees t) u) (subtree_number (subtrees t) t)
          (λ d. true≢false (sym (eq_tree-same t) ∙ ap (λ (x : Tree). eq_tree x t)
          (position-inj eq_tree eq_tree-true eq_tree-same (subtrees t) t u own-subtree (sym d)) ∙ e))

  pub own-not-zero : eqb 0 (subtree_number (subtrees t) t) ≡ false
  own-not-zero =
      ne_eqb 0 (subtree_number (subtrees t) t)
      (λ e. omega (arith, position-pos eq_tree eq_tree-true eq_tree-same (subtrees t) t own-subtree))

  pub subtrees-fit : Fits (subtree_automaton (subtrees t))
  subtrees-fit = subtree-fits (subtrees t) subtrees-closed

  module _ (A : Automaton) (fit : Fits A) where
    -- any change of the class of a tree that depends on whether it is t
    changed : (new : Bool → Bool → Bool) → new false false ≡ false →
        Canonical (λ u. new (accepts A u) (eq_tree u t))
        (minimal (product_with (λ k. new (accepting A k.0) (eqb k.1 (subtree_number (subtrees t) t))) A t))
    unfolding product_with
    changed new z =
        subst (λ (S : Tree → Bool). Canonical S (minimal (product cls A (subtree_automaton (subtrees t))))) (fun_ext
        same)
        (minimal-canonical (product cls A (subtree_automaton (subtrees t)))
        (product-fits A (subtree_automaton (subtrees t)) fit subtrees-fit cls)
        (product-accessible A (subtree_automaton (subtrees t)) fit subtrees-fit cls))
      where
        cls : Pair → Bool
        cls k = new (accepting A k.0) (eqb k.1 (subtree_number (subtrees t) t))

        same : (u : Tree) → accepts (product cls A (subtree_automaton (subtrees t))) u ≡ new (accepts A u) (eq_tree u t)
        same u =
            accepts-product A (subtree_automaton (subtrees t)) fit subtrees-fit cls (ap (new false) own-not-zero ∙ z) u
            ∙ ap (λ (n : ℕ). new (accepts A u) (eqb n (subtree_number (subtrees t) t)))
            (run-subtree (subtrees t) subtrees-closed u)
            ∙ ap (new (accepts A u)) (own-number u)

    pub insert-canonical : Canonical (λ u. accepts A u || eq_tree u t) (insert_tree t A)
    unfolding insert_tree
    insert-canonical = changed (λ a b. a || b) refl

    pub delete-canonical : Canonical (λ u. accepts A u && not (eq_tree u t)) (delete_tree t A)
    unfolding delete_tree
    delete-canonical = changed (λ a b. a && not b) refl

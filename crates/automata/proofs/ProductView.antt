-- The product of an automaton and a tree with its pairs numbered in another way: δ gives the pair of a number,
-- acc says which numbers are in use. A tree runs in it to the number of its pair.
use mathlib.Core.Bool.{Bool, ◌&&◌, ◌||◌, false, not, true}
use mathlib.Core.List.{List, [], ◌∷◌, map}
use mathlib.Core.Logic.{◌⊎◌, inl, inr}
use mathlib.Core.Path.{◌∙◌, ◌≡◌, ap, fun_ext, refl, subst, sym}
use Prim.Native.Nat.{ℕ}
use lib.Dec.{eqb}
use Rattle.automata.specs.Automaton.{Automaton, Fits, Transition, accepting, accepts, run}
use Rattle.automata.specs.Canonical.{Canonical}
use Rattle.automata.specs.Change.{delete_tree, insert_tree, product_with, subtree_automaton, subtree_number}
use Rattle.automata.specs.Change.{subtrees}
use Rattle.automata.specs.Minimal.{minimal}
use Rattle.automata.specs.Product.{live, out_pair, product}
use Rattle.automata.specs.ProductView.{ProductView}
use Rattle.lists.specs.Positions.{Pair}
use Rattle.lists.specs.Tests.{◌∈◌, every}
use Rattle.trees.specs.Tree.{Tree}
use Rattle.automata.proofs.Change.{own-not-zero, subtrees-closed, subtrees-fit}
use Rattle.automata.proofs.Minimal.{minimal-canonical}
use Rattle.automata.proofs.PairRuns.{EachNumber, Follows, NumberOrNone, follows-run}
use Rattle.automata.proofs.Product.{accepts-product, product-accessible, product-fits}
use Rattle.automata.proofs.ProductLaws.{pairs-exact}
use Rattle.automata.proofs.Subtrees.{run-subtree}
use Rattle.automata.proofs.Unique.{unique}
use Rattle.lists.proofs.Tests.{and_both}

module _ (A : Automaton) (fit : Fits A) (t : Tree) (δ : ℕ → Pair) (acc : ℕ → Bool) (P : Automaton)
    (W : ProductView A t δ acc P) where
  abbrev B : Automaton
  B = subtree_automaton (subtrees t)

  used-live : (p : ℕ) → acc p ≡ true → live (δ p) ≡ true
  used-live p h = ((pairs-exact A fit t (δ p)).0 (W.sound p h).2).0

  -- the number of a pair
  abbrev Number : ℕ → Pair → Type 0
  Number p k = (acc p ≡ true) × (δ p ≡ k)

  each_number : (ps : List ℕ) (ks : List Pair) → EachNumber A B Number ps ks →
      (every acc ps ≡ true) × (map δ ps ≡ ks)
  each_number [] [] h = (refl, refl)
  each_number [] (k ∷ ks) h = elim h [ ]
  each_number (p ∷ ps) [] h = elim h [ ]
  each_number (p ∷ ps) (k ∷ ks) h = let r = each_number ps ks h.1 in
      (and_both h.0.0 r.0, cc (h.0.1, r.1))

  follows : Follows A B Number P
  follows = record {
    rises = W.rises;
    positive = λ p k (h, e). (W.sound p h).0;
    all = all;
    only = only;
  }
    where
      all : (a : ℕ) (ps : List ℕ) (ks : List Pair) → EachNumber A B Number ps ks →
          live (out_pair A B (a, ks)) ≡ true →
          (τ : Transition) × (τ ∈ P.transitions) × (τ.label ≡ a) × (τ.args ≡ ps) ×
          Number τ.out (out_pair A B (a, ks))
      all a ps ks h l =
          let (u, d) = each_number ps ks h in
          let (τ, i, x, y) = W.all a ps u (rw d l) in
          let (_, o, e) = W.only τ i in
          (τ, i, x, y, (o, rw (e, x, y, d)))

      only : (a : ℕ) (ps : List ℕ) (ks : List Pair) → EachNumber A B Number ps ks → (τ : Transition) →
          τ ∈ P.transitions → τ.label ≡ a → τ.args ≡ ps → live (out_pair A B (a, ks)) ≡ true
      only a ps ks h τ i x y =
          let (_, o, e) = W.only τ i in rw (e, x, y, (each_number ps ks h).1) at (used-live τ.out o)

  -- a tree runs to the number of its pair, or to 0 if it has none
  pub view-run : (u : Tree) →
      ((run P u ≡ 0) × (◌≡◌ {A = Pair} (run A u, subtree_number (subtrees t) u) (0, 0))) ⊎
      ((acc (run P u) ≡ true) × (δ (run P u) ≡ (run A u, subtree_number (subtrees t) u)))
  view-run u =
      subst (λ (n : ℕ). NumberOrNone A B Number (run P u) (run A u, n))
      (run-subtree (subtrees t) (subtrees-closed t) u) (follows-run A B Number P follows u)

  pub view-accepts : (cls : Pair → Bool) → cls (0, 0) ≡ false →
      ((p : ℕ) → acc p ≡ true → accepting P p ≡ cls (δ p)) → (u : Tree) →
      accepts P u ≡ cls (run A u, subtree_number (subtrees t) u)
  view-accepts cls z h u = go (view-run u)
    where
      go : NumberOrNone A B Number (run P u) (run A u, subtree_number (subtrees t) u) →
          accepts P u ≡ cls (run A u, subtree_number (subtrees t) u)
      go (inl (n, e)) = ap (accepting P) n ∙ sym (ap cls e ∙ z)
      go (inr (n, e)) = h (run P u) n ∙ ap cls e

  -- what is canonical for the trees that it accepts is the product minimised
  pub view-minimal : (cls : Pair → Bool) → cls (0, 0) ≡ false →
      ((p : ℕ) → acc p ≡ true → accepting P p ≡ cls (δ p)) → (C : Automaton) → Canonical (accepts P) C →
      C ≡ minimal (product_with cls A t)
  unfolding product_with
  view-minimal cls z h C X =
      unique (accepts P) C (minimal (product cls A B)) X
      (subst (λ (S : Tree → Bool). Canonical S (minimal (product cls A B))) (fun_ext same)
      (minimal-canonical (product cls A B) (product-fits A B fit (subtrees-fit t) cls)
      (product-accessible A B fit (subtrees-fit t) cls)))
    where
      same : (u : Tree) → accepts (product cls A B) u ≡ accepts P u
      same u = accepts-product A B fit (subtrees-fit t) cls z u
          ∙ ap (λ (n : ℕ). cls (run A u, n)) (run-subtree (subtrees t) (subtrees-closed t) u)
          ∙ sym (view-accepts cls z h u)

  -- with the class of the tree's own pair set or cleared
  pub view-insert : ((p : ℕ) → acc p ≡ true →
      accepting P p ≡ (accepting A (δ p).0 || eqb (δ p).1 (subtree_number (subtrees t) t))) →
      (C : Automaton) → Canonical (accepts P) C → C ≡ insert_tree t A
  unfolding insert_tree
  view-insert = view-minimal (λ k. accepting A k.0 || eqb k.1 (subtree_number (subtrees t) t)) (own-not-zero t)

  pub view-delete : ((p : ℕ) → acc p ≡ true →
      accepting P p ≡ (accepting A (δ p).0 && not (eqb (δ p).1 (subtree_number (subtrees t) t)))) →
      (C : Automaton) → Canonical (accepts P) C → C ≡ delete_tree t A
  unfolding delete_tree
  view-delete = view-minimal (λ k. accepting A k.0 && not (eqb k.1 (subtree_number (subtrees t) t))) refl

-- The classes of subtrees, one after another, and what they are in the set after a change.
use mathlib.Core.Bool.{Bool, cond, false, true}
use mathlib.Core.List.{List}
use mathlib.Core.Logic.{◌≢◌}
use mathlib.Core.Path.{◌∙◌, ◌≡◌, ap, refl, sym}
use Prim.Native.Nat.{◌+◌, ◌-◌, ◌<◌, ◌≤◌, suc, zero, ℕ}
use native.Mathlib.Omega.{arith}
use lib.Dec.{eqb}
use lib.ListN.{get_or, length, length-set, set}
use borrow.Author.Tests.{eq-eqb, eqb-false, eqb-true, ne_eqb}
use Rattle.automata.specs.Automaton.{Automaton, accepting, run, states}
use Rattle.format.specs.Format.{max_nodes}
use Rattle.subtrees.specs.Store.{tree_numbered}
use Rattle.trees.specs.Tree.{Tree, eq_tree}
use Rattle.naming.specs.Classes.{Changed, Classed, ClassesIn, Rooted, class_in, subtree_class}
use Rattle.alike.specs.Known.{Holds}
use Rattle.automata.proofs.Distinguishable.{run_fits}
use Rattle.lists.proofs.Filling.{set-next-from}
use Rattle.naming.proofs.Parentage.{number_same, refuted}
use Rattle.trees.proofs.Trees.{eq_tree-true}

module _ (b q : List ℕ) (root : ℕ) (inserting : Bool) (j : ℕ) where
  pub class-own : j ≡ root → {c : Bool} → c ≡ inserting → c ≡ subtree_class b q root inserting j
  unfolding subtree_class
  class-own e d = rw (eq-eqb j root e) d

  pub class-other : j ≢ root → {x : ℕ} → x ≡ get_or q (j - 1) 0 → {c : Bool} → c ≡ class_in b x →
      c ≡ subtree_class b q root inserting j
  unfolding subtree_class
  class-other other e d = rw (ne_eqb j root other, ← e) d

-- the classes of the subtrees at the first indices
pub record ClassedTo (f : ℕ → Bool) (cl : List ℕ) (j : ℕ) : Type 0 where
  pub size : length cl ≡ max_nodes
  pub class : (i : ℕ) → i < j → eqb (get_or cl i 0) 1 ≡ f (i + 1)

module _ {f : ℕ → Bool} where
  pub classed-start : {cl : List ℕ} → length cl ≡ max_nodes → ClassedTo f cl 0
  classed-start size = record { size = size; class = λ i h. absurd (omega arith) }

  pub classed-next : {cl : List ℕ} {j : ℕ} → ClassedTo f cl j → j < max_nodes → (x : ℕ) → eqb x 1 ≡ f (j + 1) →
      ClassedTo f (set cl j x) (j + 1)
  classed-next {cl} {j} inv h x e = record {
    size = length-set cl j x ∙ inv.size;
    class = λ i l. set-next-from (λ y. eqb y 1) (λ k. f (k + 1)) 0 cl j x (omega (arith, inv.size)) e
        (λ k _ n. inv.class k n) i (omega arith) l;
  }

-- the class of a state that a table has
pub state-class : {A : Automaton} {b : List ℕ} → ClassesIn A b → (q : ℕ) → q ≤ states A → class_in b q ≡ accepting A q
state-class C zero h = refl
state-class C (suc q) h = rw (ne_eqb (suc q) 0 (λ e. omega arith)) (sym (C.each (suc q) (omega arith, h)))

eq_tree-other : (v t : Tree) → (v ≡ t → ⊥) → eq_tree v t ≡ false
eq_tree-other v t h = refuted (eq_tree v t) (λ e. h (eq_tree-true v t e))

module _ {A : Automaton} {t : Tree} {ts : List Tree} {m : ℕ} {S : Tree → Bool} {l r c q b : List ℕ} {root : ℕ}
    (inserting : Bool) (h : Holds A t ts m l r c q) (C : ClassesIn A b) (R : Rooted t ts m root)
    (X : Changed inserting A t S) where
  class-changed : (j : ℕ) → 1 ≤ j → j ≤ m → subtree_class b q root inserting j ≡ S (tree_numbered ts j)
  unfolding subtree_class
  class-changed j low high = go (eqb j root) refl
    where
      go : (d : Bool) → eqb j root ≡ d →
          cond d inserting (class_in b (get_or q (j - 1) 0)) ≡ S (tree_numbered ts j)
      go true e = sym (ap S (ap (tree_numbered ts) (eqb-true j root e) ∙ R.whole) ∙ X.own)
      go false e =
          ap (class_in b) (h.stored.state (j - 1) (omega arith)) ∙
          state-class C (run A (tree_numbered ts j)) (run_fits A C.fits (tree_numbered ts j)) ∙
          sym (X.others (tree_numbered ts j) (eq_tree-other (tree_numbered ts j) t
          (λ d. eqb-false j root e (number_same h j root low high R.some R.known (d ∙ sym R.whole)))))

  pub classed-changed : {cl : List ℕ} {k : ℕ} → ClassedTo (subtree_class b q root inserting) cl k → m ≤ k →
      Classed S ts m cl
  classed-changed {cl} {k} inv n = record { each = each }
    where
      each : (j : ℕ) → 1 ≤ j → j ≤ m → eqb (get_or cl (j - 1) 0) 1 ≡ S (tree_numbered ts j)
      each j low high =
          let z : j - 1 + 1 ≡ j = omega arith in
          inv.class (j - 1) (omega arith) ∙ ap (subtree_class b q root inserting) z ∙ class-changed j low high

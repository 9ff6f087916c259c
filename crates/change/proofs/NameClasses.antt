-- The class that the code gives a name, by its number, is the class of the name in the changed set.
use mathlib.Core.Bool.{Bool, ◌&&◌, ◌||◌, cond, false, not, true}
use mathlib.Core.List.{List}
use mathlib.Core.Path.{◌∙◌, ◌≡◌, ap, ap₂, refl, sym}
use Prim.Native.Nat.{◌+◌, ◌-◌, ◌<◌, ◌≤◌, suc, zero, ℕ}
use native.Mathlib.Omega.{arith}
use lib.Dec.{eqb, leb}
use lib.ListN.{get_or}
use borrow.Author.Tests.{eq-eqb, eqb-false, eqb-true, le-leb, leb-false, leb-true, lt-leb, ne_eqb}
use Rattle.automata.specs.Automaton.{Automaton, accepting, accepts, states}
use Rattle.automata.specs.NamedChange.{changed_set, name_class}
use Rattle.change.specs.Classes.{class_of_name}
use Rattle.change.specs.Given.{Given}
use Rattle.naming.specs.Classes.{class_in}
use Rattle.subtrees.specs.Store.{bottom_up, tree_numbered}
use Rattle.subtrees.specs.declared.Subtrees.{Subtrees}
use Rattle.table.specs.Layout.{decode, state_count}
use Rattle.trees.specs.Tree.{Tree, eq_tree}
use Rattle.automata.proofs.Distinguishable.{run_fits}
use Rattle.change.proofs.Inputs.{given-fits, given-states}
use Rattle.subtrees.proofs.Listed.{number-inj, number-state}
use Rattle.table.proofs.Decoded.{decoded-class, decoded-states}
use Rattle.trees.proofs.Trees.{eq_tree-same, eq_tree-true}

class-in : (b : List ℕ) (q : ℕ) → q ≤ state_count b → class_in b q ≡ accepting (decode b) q
class-in b zero h = refl
class-in b (suc q) h = rw (ne_eqb (suc q) 0 (λ e. omega arith)) (sym (decoded-class b (suc q) (omega arith) h))

-- the set after the change as a choice
pub chosen : (inserting : Bool) (A : Automaton) (t u : Tree) →
    changed_set inserting A t u ≡ cond (eq_tree u t) inserting (accepts A u)
unfolding changed_set
chosen true A t u = go (accepts A u) (eq_tree u t)
  where
    go : (x c : Bool) → (x || c) ≡ cond c true x
    go true true = refl
    go true false = refl
    go false true = refl
    go false false = refl
chosen false A t u = go (accepts A u) (eq_tree u t)
  where
    go : (x c : Bool) → (x && not c) ≡ cond c false x
    go true true = refl
    go true false = refl
    go false true = refl
    go false false = refl

module _ {t : Tree} {b : List ℕ} {k n : ℕ} {r : Subtrees} (g : Given t b k n r) (inserting : Bool) where
  abbrev A : Automaton
  A = decode b

  -- the tree itself has its own number, and no other
  own-test : (j : ℕ) → 1 ≤ j → j ≤ r.count → eq_tree (tree_numbered (bottom_up t) j) t ≡ eqb j r.count
  own-test j h l = go (eqb j r.count) refl
    where
      go : (d : Bool) → eqb j r.count ≡ d → eq_tree (tree_numbered (bottom_up t) j) t ≡ d
      go true e =
          ap (λ (i : ℕ). eq_tree (tree_numbered (bottom_up t) i) t) (eqb-true j r.count e)
          ∙ ap (λ (u : Tree). eq_tree u t) g.lists.last ∙ eq_tree-same t
      go false e = no (eq_tree (tree_numbered (bottom_up t) j) t) refl
        where
          no : (d : Bool) → eq_tree (tree_numbered (bottom_up t) j) t ≡ d → d ≡ false
          no true d =
              absurd (eqb-false j r.count e
              (number-inj g.lists j r.count h l g.lists.some (omega arith)
              (eq_tree-true (tree_numbered (bottom_up t) j) t d ∙ sym g.lists.last)))
          no false d = refl

  state-class : (j : ℕ) → 1 ≤ j → j ≤ r.count →
      class_in b (get_or r.states (j - 1) 0) ≡ accepts (decode b) (tree_numbered (bottom_up t) j)
  state-class j h l =
      let e = number-state g.lists j h l in
      class-in b (get_or r.states (j - 1) 0)
      (omega (arith, e, run_fits A (given-fits g) (tree_numbered (bottom_up t) j), decoded-states b))
      ∙ ap (accepting A) e

  pub name-class : (p : ℕ) → p ≤ n + r.count →
      class_of_name b n r.states (n + r.count) inserting p ≡
      name_class (decode b) (bottom_up t) (changed_set inserting (decode b) t) p
  unfolding class_of_name name_class
  name-class p h = go (leb p n) refl
    where
      go : (c : Bool) → leb p n ≡ c →
          class_of_name b n r.states (n + r.count) inserting p ≡
          name_class A (bottom_up t) (changed_set inserting A t) p
      go true e =
          let l = leb-true p n e in
          rw (
            ne_eqb p (n + r.count) (λ d. omega (arith, g.lists.some)),
            e,
            le-leb p (states A) (omega (arith, given-states g)),
          )
          (class-in b p (omega (arith, given-states g, decoded-states b)))
      go false e =
          let l = leb-false p n e in
          let i : p - states A - 1 ≡ p - n - 1 = omega (arith, given-states g) in
          rw (e, lt-leb p (states A) (omega (arith, given-states g)), i)
          (ap₂ (λ (c x : Bool). cond c inserting x) (same l) (state-class (p - n) (omega arith) (omega arith))
          ∙ sym (chosen inserting A t (tree_numbered (bottom_up t) (p - n))))
        where
          shift : n < p → (d : Bool) → eqb (p - n) r.count ≡ d → eqb p (n + r.count) ≡ d
          shift l true d = eq-eqb p (n + r.count) (let z = eqb-true (p - n) r.count d in omega arith)
          shift l false d = ne_eqb p (n + r.count) (λ z. eqb-false (p - n) r.count d (omega arith))

          same : n < p → eqb p (n + r.count) ≡ eq_tree (tree_numbered (bottom_up t) (p - n)) t
          same l = shift l (eqb (p - n) r.count) refl ∙ sym (own-test (p - n) (omega arith) (omega arith))

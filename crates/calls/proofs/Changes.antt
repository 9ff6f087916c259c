-- Demand 2 on bytes: what a change does to the trees that a table accepts. A done addition adds that one tree, a done
-- withdrawal takes that one tree out, and a refused call leaves the table as it was.
use mathlib.Core.Bool.{Bool, ◌&&◌, ◌||◌, cond, false, not, true}
use mathlib.Core.List.{List}
use mathlib.Core.Path.{◌∙◌, ◌≡◌, refl, subst, sym}
use Prim.Native.Nat.{ℕ}
use native.Mathlib.Omega.{arith}
use lib.Dec.{eqb}
use borrow.Author.Tests.{eq-eqb, eqb-true}
use Rattle.automata.specs.Automaton.{Automaton, accepts}
use Rattle.calls.specs.Calls.{Change, add_result, change_refusal, change_result, changed, changed_tree, delete}
use Rattle.calls.specs.Calls.{done_with, insert, outcome, remove_result}
use Rattle.calls.specs.Claim.{InStep}
use Rattle.calls.specs.Series.{Model, changed_set, member, model_of, model_refusal, with_change}
use Rattle.calls.specs.declared.Answer.TheVariants.{Done, Refused}
use Rattle.format.specs.Format.{AllBytes}
use Rattle.table.specs.Layout.{decode, encode}
use Rattle.trees.specs.Listing.{read_tree}
use Rattle.trees.specs.Tree.{Tree, eq_tree}
use Rattle.calls.proofs.Conditions.{change-passed, early-passed}
use Rattle.calls.proofs.Series.{change-in-step, change-refusal, in-step-accepts, passed-in-step}

module _ (r : ℕ) (B : Automaton) (b w : List ℕ) where
  -- done says that nothing was refused, and a refusal leaves the table as it was
  outcome-done : (n m : ℕ) → (outcome r B b w).answer ≡ Done n m → r ≡ 0
  unfolding outcome
  outcome-done n m = go (eqb r 0) refl
    where
      go : (t : Bool) → eqb r 0 ≡ t → cond t (done_with B) (Refused r) ≡ Done n m → r ≡ 0
      go true h e = eqb-true r 0 h
      go false h e = let z : ◌≡◌ {A = ℕ} 0 1 = cc in absurd (omega arith)

  outcome-refused : (k : ℕ) → (outcome r B b w).answer ≡ Refused k → (outcome r B b w).table ≡ b
  unfolding outcome
  outcome-refused k = go (eqb r 0)
    where
      go : (t : Bool) → cond t (done_with B) (Refused r) ≡ Refused k → cond t (encode B) b ≡ b
      go true e = let z : ◌≡◌ {A = ℕ} 0 1 = cc in absurd (omega arith)
      go false e = refl

module _ (c : Change) (s b w : List ℕ) where
  change-untouched : (k : ℕ) → (change_result c s b w).answer ≡ Refused k → (change_result c s b w).table ≡ b
  unfolding change_result
  change-untouched = outcome-refused (change_refusal c s b w) (changed c (decode b)) b w

  change-done : (n m : ℕ) → (change_result c s b w).answer ≡ Done n m → change_refusal c s b w ≡ 0
  unfolding change_result
  change-done = outcome-done (change_refusal c s b w) (changed c (decode b)) b w

  -- a done change takes a table that is in step with a model to one in step with the changed model
  module _ (a : Model) (X : InStep b a) where
    pub done-unrefused : (n m : ℕ) → (change_result c s b w).answer ≡ Done n m → model_refusal a c s w ≡ 0
    done-unrefused n m e = sym (change-refusal b a X c s w) ∙ change-done n m e

    pub done-in-step : AllBytes s → changed_tree c ≡ read_tree s → (n m : ℕ) →
        (change_result c s b w).answer ≡ Done n m → InStep (change_result c s b w).table (with_change c a)
    done-in-step bytes tree n m e =
        subst (λ (t : Bool). InStep (change_result c s b w).table (cond t (with_change c a) a))
        (eq-eqb (model_refusal a c s w) 0 (done-unrefused n m e)) (change-in-step b a X c s w bytes tree)

  change-accepts : AllBytes s → AllBytes b → changed_tree c ≡ read_tree s → (n m : ℕ) →
      (change_result c s b w).answer ≡ Done n m → (u : Tree) →
      accepts (decode (change_result c s b w).table) u ≡ changed_set c (accepts (decode b)) u
  unfolding model_of member
  change-accepts bytes table tree n m e u =
      let X = passed-in-step b table (early-passed c s b w (change-passed c s b w (change-done n m e)).0).1 in
      in-step-accepts (change_result c s b w).table (with_change c (model_of b))
      (done-in-step (model_of b) X bytes tree n m e) u

module _ (s b w : List ℕ) where
  pub added-accepts : AllBytes s → AllBytes b → (n m : ℕ) → (add_result s b w).answer ≡ Done n m → (u : Tree) →
      accepts (decode (add_result s b w).table) u ≡ (accepts (decode b) u || eq_tree u (read_tree s))
  unfolding add_result
  added-accepts h k = change-accepts (insert (read_tree s)) s b w h k refl

  pub removed-accepts : AllBytes s → AllBytes b → (n m : ℕ) → (remove_result s b w).answer ≡ Done n m → (u : Tree) →
      accepts (decode (remove_result s b w).table) u ≡ (accepts (decode b) u && not (eq_tree u (read_tree s)))
  unfolding remove_result
  removed-accepts h k = change-accepts (delete (read_tree s)) s b w h k refl

  -- a refused call leaves every byte of the table, so it accepts what it did
  pub add-refused : (k : ℕ) → (add_result s b w).answer ≡ Refused k → (add_result s b w).table ≡ b
  unfolding add_result
  add-refused = change-untouched (insert (read_tree s)) s b w

  pub remove-refused : (k : ℕ) → (remove_result s b w).answer ≡ Refused k → (remove_result s b w).table ≡ b
  unfolding remove_result
  remove-refused = change-untouched (delete (read_tree s)) s b w

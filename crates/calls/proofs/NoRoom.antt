-- Order 13 on bytes: a change is refused by 17 only if every deterministic automaton of the changed set has more than
-- 200 states or more than 1,024 transitions.
use mathlib.Core.Bool.{Bool, ◌&&◌, cond, false, true}
use mathlib.Core.List.{List}
use mathlib.Core.Logic.{◌⊎◌, inl, inr}
use mathlib.Core.Path.{◌∙◌, ◌≡◌, refl, sym}
use Prim.Native.Nat.{◌<◌, ◌≤◌, ℕ}
use native.Mathlib.Omega.{arith}
use lib.Dec.{eqb, leb}
use lib.ListN.{length}
use borrow.Author.Tests.{eqb-true, leb-false}
use Rattle.automata.specs.AnyAutomaton.{AnyAutomaton, Deterministic, Exceeds, Recognizes}
use Rattle.automata.specs.Automaton.{Automaton, accepts, states}
use Rattle.automata.specs.Canonical.{Canonical}
use Rattle.automata.specs.Change.{product_transitions}
use Rattle.calls.specs.Calls.{Change, add_result, change_refusal, change_result, changed, changed_tree, delete}
use Rattle.calls.specs.Calls.{done_with, early_conditions, insert, outcome, remove_result, size_conditions}
use Rattle.calls.specs.Series.{canonical_of, changed_set, member, model_of}
use Rattle.calls.specs.declared.Answer.TheVariants.{Refused}
use Rattle.format.specs.Format.{AllBytes, max_product, max_states, max_transitions}
use Rattle.lists.specs.Conditions.{Condition, first_broken}
use Rattle.table.specs.Intake.{fits_table}
use Rattle.table.specs.Layout.{decode}
use Rattle.trees.specs.Listing.{read_tree}
use Rattle.automata.proofs.NoSmaller.{no-smaller}
use Rattle.calls.proofs.Conditions.{early-at-most, early-from-one, early-passed}
use Rattle.calls.proofs.Model.{changed-canonical}
use Rattle.calls.proofs.Series.{passed-in-step}
use Rattle.lists.proofs.Conditions.{broken-at-most, first_broken-append}

-- an automaton that fits no table is above one of the limits
too_large : (A : Automaton) → fits_table A ≡ false → (max_states < states A) ⊎ (max_transitions < length A.transitions)
too_large A = go (leb (states A) max_states) refl
  where
    go : (b : Bool) → leb (states A) max_states ≡ b → (b && leb (length A.transitions) max_transitions) ≡ false →
        (max_states < states A) ⊎ (max_transitions < length A.transitions)
    go true e f = inr (leb-false (length A.transitions) max_transitions f)
    go false e f = inl (leb-false (states A) max_states e)

module _ (c : Change) (s b w : List ℕ) where
  -- 17 says that nothing before it is broken, and that the changed automaton fits no table
  full-refusal : change_refusal c s b w ≡ 17 →
      (first_broken (early_conditions c s b w) ≡ 0) × (fits_table (changed c (decode b)) ≡ false)
  unfolding change_refusal
  full-refusal e =
      go (eqb (first_broken early) 0) (leb (product_transitions (decode b) (changed_tree c)) max_product)
      (fits_table (changed c (decode b))) refl
      (sym (first_broken-append early (size_conditions c (decode b)) (early-from-one c s b w)) ∙ e)
    where
      early : List Condition
      early = early_conditions c s b w

      go : (x y z : Bool) → eqb (first_broken early) 0 ≡ x →
          cond x (cond y (cond z 0 17) 16) (first_broken early) ≡ 17 → (first_broken early ≡ 0) × (z ≡ false)
      go true true true h d = absurd (omega arith)
      go true true false h d = (eqb-true (first_broken early) 0 h, refl)
      go true false z h d = absurd (omega arith)
      go false y z h d = absurd (omega (arith, broken-at-most 15 early (early-at-most c s b w)))

  -- an answer of 17 is refusal 17
  full-answer : (change_result c s b w).answer ≡ Refused 17 → change_refusal c s b w ≡ 17
  unfolding change_result outcome
  full-answer = go (eqb (change_refusal c s b w) 0)
    where
      go : (t : Bool) → cond t (done_with (changed c (decode b))) (Refused (change_refusal c s b w)) ≡ Refused 17 →
          change_refusal c s b w ≡ 17
      go true e = let z : ◌≡◌ {A = ℕ} 0 1 = cc in absurd (omega arith)
      go false e = cc

  full-canonical : AllBytes b → first_broken (early_conditions c s b w) ≡ 0 →
      Canonical (changed_set c (accepts (decode b))) (changed c (decode b))
  unfolding model_of member canonical_of
  full-canonical bytes e =
      changed-canonical c (accepts (decode b)) (decode b)
      (passed-in-step b bytes (early-passed c s b w e).1).canonical

  change-no-room : AllBytes b → (change_result c s b w).answer ≡ Refused 17 → (B : AnyAutomaton) → Deterministic B →
      Recognizes B (changed_set c (accepts (decode b))) → Exceeds max_states max_transitions B
  change-no-room bytes e B D R Q T q t =
      let (z, f) = full-refusal (full-answer e) in
      let least = no-smaller B D (changed_set c (accepts (decode b))) R (changed c (decode b)) (full-canonical bytes z)
      in
      go (too_large (changed c (decode b)) f) (least.states Q q) (least.transitions T t)
    where
      go : (max_states < states (changed c (decode b))) ⊎
          (max_transitions < length (changed c (decode b)).transitions) →
          states (changed c (decode b)) ≤ length Q → length (changed c (decode b)).transitions ≤ length T →
          (max_states < length Q) ⊎ (max_transitions < length T)
      go (inl h) m n = inl (omega arith)
      go (inr h) m n = inr (omega arith)

module _ (s b w : List ℕ) (bytes : AllBytes b) (B : AnyAutomaton) (D : Deterministic B) where
  -- an addition refused by 17: no deterministic automaton of the set with the tree put in is within the limits
  pub add-no-room : (add_result s b w).answer ≡ Refused 17 →
      Recognizes B (changed_set (insert (read_tree s)) (accepts (decode b))) → Exceeds max_states max_transitions B
  unfolding add_result
  add-no-room e = change-no-room (insert (read_tree s)) s b w bytes e B D

  -- a withdrawal refused by 17: none of the set with the tree taken out is
  pub remove-no-room : (remove_result s b w).answer ≡ Refused 17 →
      Recognizes B (changed_set (delete (read_tree s)) (accepts (decode b))) → Exceeds max_states max_transitions B
  unfolding remove_result
  remove-no-room e = change-no-room (delete (read_tree s)) s b w bytes e B D

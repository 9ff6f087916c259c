-- The conditions of a change: numbered from 1, those before 16 up to 15, and what passing them says.
use mathlib.Core.Bool.{Bool, true}
use mathlib.Core.List.{List, [], ◌++◌, ◌∷◌}
use mathlib.Core.Path.{◌≡◌}
use Prim.Native.Nat.{ℕ}
use native.Mathlib.Omega.{arith}
use lib.ListN.{length}
use borrow.Author.Tests.{eqb-true}
use Rattle.automata.specs.Automaton.{Automaton, accepts}
use Rattle.calls.specs.Calls.{Change, ask_refusal, change_refusal, changed, changed_tree, delete, early_conditions}
use Rattle.calls.specs.Calls.{insert, presence, scratch_condition, size_conditions}
use Rattle.calls.specs.Series.{Model, model_conditions}
use Rattle.format.specs.Format.{scratch_bytes}
use Rattle.lists.specs.Conditions.{Condition, first_broken}
use Rattle.table.specs.Intake.{automaton_conditions, content_conditions, fits_table, length_condition, table_refusal}
use Rattle.table.specs.Layout.{decode}
use Rattle.trees.specs.Listing.{listing_conditions, listing_refusal}
use Rattle.lists.proofs.Conditions.{AtMost, FromOne, at-most-append, from-one-append, hold-append, hold-unbroken}
use Rattle.lists.proofs.Conditions.{unbroken-hold}
use Rattle.trees.proofs.ListingRefusal.{listing-from-one}

pub table-from-one : (b : List ℕ) → FromOne (length_condition b ∷ content_conditions b)
unfolding content_conditions automaton_conditions
table-from-one b = omega arith

-- ask refuses nothing: neither the listing nor the table is refused
pub ask-passed : (s b : List ℕ) → ask_refusal s b ≡ 0 → (listing_refusal s ≡ 0) × (table_refusal b ≡ 0)
unfolding ask_refusal listing_refusal table_refusal
ask-passed s b e =
    let h = hold-append (listing_conditions s) (length_condition b ∷ content_conditions b)
    (unbroken-hold (listing_conditions s ++ (length_condition b ∷ content_conditions b))
    (from-one-append (listing_conditions s) (length_condition b ∷ content_conditions b) (listing-from-one s)
    (table-from-one b)) e) in
    (hold-unbroken (listing_conditions s) h.0, hold-unbroken (length_condition b ∷ content_conditions b) h.1)

presence-numbered : (c : Change) (p : Bool) → FromOne (presence c p ∷ []) × AtMost 15 (presence c p ∷ [])
presence-numbered (insert t) p = (omega arith, omega arith)
presence-numbered (delete t) p = (omega arith, omega arith)

module _ (c : Change) (s b w : List ℕ) where
  -- 14 or 15, of the tree and the table
  abbrev pub of_presence : List Condition
  of_presence = presence c (accepts (decode b) (changed_tree c)) ∷ []

  -- 5 to 15
  abbrev pub of_tables : List Condition
  of_tables = length_condition b ∷ scratch_condition w ∷ (content_conditions b ++ of_presence)

  pub early-from-one : FromOne (early_conditions c s b w)
  unfolding early_conditions
  early-from-one =
      from-one-append (listing_conditions s) of_tables (listing-from-one s) (
        omega arith,
        (
          omega arith,
          from-one-append (content_conditions b) of_presence (table-from-one b).1 (presence-numbered c _).0,
        ),
      )

  pub early-at-most : AtMost 15 (early_conditions c s b w)
  unfolding early_conditions listing_conditions content_conditions automaton_conditions
  early-at-most =
      at-most-append 15 (listing_conditions s) of_tables (omega arith) (
        omega arith,
        (omega arith, at-most-append 15 (content_conditions b) of_presence (omega arith) (presence-numbered c _).1),
      )

  pub change-from-one : (A : Automaton) → FromOne (early_conditions c s b w ++ size_conditions c A)
  change-from-one A =
      from-one-append (early_conditions c s b w) (size_conditions c A) early-from-one (omega arith)

  -- nothing is refused before 16: neither the listing nor a table is
  pub early-passed : first_broken (early_conditions c s b w) ≡ 0 →
      (listing_refusal s ≡ 0) × (table_refusal b ≡ 0) × (length w ≡ scratch_bytes)
  unfolding early_conditions listing_refusal table_refusal
  early-passed e =
      let h = hold-append (listing_conditions s) of_tables (unbroken-hold (listing_conditions s ++ of_tables)
      early-from-one e) in
      let k = hold-append (content_conditions b) of_presence h.1.1.1 in (
        hold-unbroken (listing_conditions s) h.0,
        hold-unbroken (length_condition b ∷ content_conditions b) (h.1.0, k.0),
        eqb-true (length w) scratch_bytes h.1.1.0,
      )

  -- a change that is not refused passes all of them
  pub change-passed : change_refusal c s b w ≡ 0 →
      (first_broken (early_conditions c s b w) ≡ 0) × (fits_table (changed c (decode b)) ≡ true)
  unfolding change_refusal
  change-passed e =
      let h = hold-append (early_conditions c s b w) (size_conditions c (decode b))
      (unbroken-hold (early_conditions c s b w ++ size_conditions c (decode b)) (change-from-one (decode b)) e) in
      (hold-unbroken (early_conditions c s b w) h.0, h.1.1.0)

pub model-from-one : (m : Model) (c : Change) (s w : List ℕ) → FromOne (model_conditions m c s w)
unfolding model_conditions
model-from-one m c s w =
    from-one-append (listing_conditions s) (scratch_condition w ∷ presence c _ ∷ _) (listing-from-one s)
    (omega arith, ((presence-numbered c _).0.0, omega arith))

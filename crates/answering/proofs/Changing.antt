-- Adding and removing: refusals 1 to 13, then 14 or 15, and the result if nothing but 16 and 17 is left.
use mathlib.Core.Bool.{Bool, false, true}
use mathlib.Core.List.{List, ◌++◌, ◌∷◌, append_assoc}
use mathlib.Core.Logic.{◌≢◌}
use mathlib.Core.Path.{◌∙◌, ◌≡◌, ap, refl, sym}
use Prim.Native.Nat.{ℕ}
use native.Mathlib.Omega.{arith}
use lib.ListN.{length}
use borrow.Author.Tests.{eq-eqb, lt-leb, ne_eqb}
use Rattle.automata.specs.Automaton.{accepts}
use Rattle.calls.specs.Calls.{Change, change_refusal, change_result, changed, changed_tree, early_conditions}
use Rattle.calls.specs.Calls.{outcome, scratch_condition, size_conditions}
use Rattle.calls.specs.declared.Answer.TheVariants.{Refused}
use Rattle.change.specs.Changing.{change_of, changed_outcome, result_of, size_refusal}
use Rattle.format.specs.Format.{scratch_bytes, table_bytes}
use Rattle.lists.specs.Conditions.{Condition, first_broken}
use Rattle.answering.specs.Changes.{input_conditions, input_refusal, presence_refusal}
use Rattle.table.specs.Intake.{content_conditions, length_condition, table_refusal}
use Rattle.table.specs.Layout.{decode}
use Rattle.trees.specs.Listing.{listing_conditions, listing_refusal}
use Rattle.trees.specs.Tree.{Tree}
use Rattle.calls.proofs.Conditions.{early-at-most, early-from-one, early-passed, of_presence, table-from-one}
use Rattle.change.proofs.Answering.{change-tree}
use Rattle.lists.proofs.Conditions.{FromOne, append-broken, append-unbroken, broken-at-most, from-one-append}
use Rattle.lists.proofs.Conditions.{hold-append, hold-unbroken, unbroken-hold}
use Rattle.trees.proofs.ListingRefusal.{listing-from-one}

-- ---- 14 and 15

module _ {inserting present : Bool} (t : Tree) where
  pub presence-14 : inserting ≡ true → present ≡ true → ◌≡◌ {A = ℕ} 14 (presence_refusal (change_of inserting t) present)
  presence-14 e d = rw (e, d)

  pub absence-added : inserting ≡ true → present ≡ false → ◌≡◌ {A = ℕ} 0 (presence_refusal (change_of inserting t)
      present)
  absence-added e d = rw (e, d)

  pub presence-removed : inserting ≡ false → present ≡ true →
      ◌≡◌ {A = ℕ} 0 (presence_refusal (change_of inserting t) present)
  presence-removed e d = rw (e, d)

  pub absence-15 : inserting ≡ false → present ≡ false →
      ◌≡◌ {A = ℕ} 15 (presence_refusal (change_of inserting t) present)
  absence-15 e d = rw (e, d)

-- asked of the tree that is listed
pub presence-read : (inserting : Bool) (t : Tree) (b : List ℕ) {p : Bool} {q : ℕ} → p ≡ accepts (decode b) t →
    q ≡ presence_refusal (change_of inserting t) p →
    q ≡ presence_refusal (change_of inserting t) (accepts (decode b) (changed_tree (change_of inserting t)))
presence-read inserting t b d e =
    e ∙ ap (presence_refusal (change_of inserting t)) (d ∙ ap (accepts (decode b)) (sym (change-tree inserting t)))

-- ---- 1 to 13 in their order

module _ (s b w : List ℕ) where
  -- 5 to 13
  abbrev of_table : List Condition
  of_table = length_condition b ∷ scratch_condition w ∷ content_conditions b

  input-from-one : FromOne (input_conditions s b w)
  unfolding input_conditions
  input-from-one =
      let table = table-from-one b in
      from-one-append (listing_conditions s) of_table (listing-from-one s) (table.0, (omega arith, table.1))

  pub input-listing : {r : ℕ} → r ≡ listing_refusal s → r ≢ 0 → r ≡ input_refusal s b w
  unfolding input_refusal input_conditions listing_refusal
  input-listing e n = append-broken (listing_conditions s) of_table (listing-from-one s) e n

  module _ {r : ℕ} (e : r ≡ listing_refusal s) (z : r ≡ 0) where
    input-rest : {q : ℕ} → q ≡ first_broken of_table → q ≡ input_refusal s b w
    unfolding input_refusal input_conditions listing_refusal
    input-rest f = append-unbroken (listing_conditions s) of_table (listing-from-one s) e z f

    pub input-5 : length b ≢ table_bytes → ◌≡◌ {A = ℕ} 5 (input_refusal s b w)
    input-5 n = input-rest (rw (ne_eqb (length b) table_bytes n))

    module _ (fits : length b ≡ table_bytes) where
      pub input-6 : length w ≢ scratch_bytes → ◌≡◌ {A = ℕ} 6 (input_refusal s b w)
      input-6 n = input-rest (rw (eq-eqb (length b) table_bytes fits, ne_eqb (length w) scratch_bytes n))

      pub input-content : length w ≡ scratch_bytes → {q : ℕ} → q ≡ first_broken (content_conditions b) →
          q ≡ input_refusal s b w
      input-content room d =
          input-rest (rw (eq-eqb (length b) table_bytes fits, eq-eqb (length w) scratch_bytes room) d)

  -- nothing is refused before 14: neither the listing nor a table is
  pub input-passed : input_refusal s b w ≡ 0 → (listing_refusal s ≡ 0) × (table_refusal b ≡ 0)
  unfolding input_refusal input_conditions listing_refusal table_refusal
  input-passed e =
      let h = hold-append (listing_conditions s) of_table
      (unbroken-hold (listing_conditions s ++ of_table) input-from-one e) in (
        hold-unbroken (listing_conditions s) h.0,
        hold-unbroken (length_condition b ∷ content_conditions b) (h.1.0, h.1.1.1),
      )

-- ---- 1 to 15

-- the first of 1 to 15 that is broken, or 0
unfoldable pub early_refusal : Change → List ℕ → List ℕ → List ℕ → ℕ
early_refusal c s b w = first_broken (early_conditions c s b w)

module _ (c : Change) (s b w : List ℕ) where
  early-input : early_conditions c s b w ≡ input_conditions s b w ++ of_presence c s b w
  unfolding early_conditions input_conditions
  early-input = sym (append_assoc (listing_conditions s) (of_table s b w) (of_presence c s b w))

  module _ {r : ℕ} (e : r ≡ input_refusal s b w) where
    pub input-broken : r ≢ 0 → r ≡ early_refusal c s b w
    unfolding early_refusal input_refusal
    input-broken n =
        append-broken (input_conditions s b w) (of_presence c s b w) (input-from-one s b w) e n ∙
        ap first_broken (sym early-input)

    pub presence-left : r ≡ 0 → {q : ℕ} → q ≡ presence_refusal c (accepts (decode b) (changed_tree c)) →
        q ≡ early_refusal c s b w
    unfolding early_refusal input_refusal
    presence-left z d =
        append-unbroken (input_conditions s b w) (of_presence c s b w) (input-from-one s b w) e z d ∙
        ap first_broken (sym early-input)

  -- ---- before and after

  pub change-refused : {r : ℕ} → r ≡ early_refusal c s b w → r ≢ 0 → result_of (Refused r) b w ≡ change_result c s b w
  unfolding early_refusal change_result change_refusal outcome
  change-refused {r} e n =
      let d : change_refusal c s b w ≡ r =
      sym (append-broken (early_conditions c s b w) (size_conditions c (decode b)) (early-from-one c s b w) e n) in
      rw (
        d,
        ne_eqb r 0 n,
        lt-leb 16 r (omega (arith, e, broken-at-most 15 (early_conditions c s b w) (early-at-most c s b w))),
      )

  module _ {r : ℕ} (e : r ≡ early_refusal c s b w) (z : r ≡ 0) where
    pub change-given : (listing_refusal s ≡ 0) × (table_refusal b ≡ 0) × (length w ≡ scratch_bytes)
    unfolding early_refusal
    change-given = early-passed c s b w (sym e ∙ z)

    late : change_refusal c s b w ≡ size_refusal c (decode b)
    unfolding early_refusal change_refusal size_refusal
    late =
        sym (append-unbroken (early_conditions c s b w) (size_conditions c (decode b)) (early-from-one c s b w) e z refl)

    pub change-settled : changed_outcome c b w ≡ change_result c s b w
    unfolding change_result
    change-settled = ap (λ (k : ℕ). outcome k (changed c (decode b)) b w) (sym late)

-- A table that passed its check, as the part of it and the numbers that code passes on.
use mathlib.Core.Bool.{true}
use mathlib.Core.List.{List, []}
use mathlib.Core.Path.{◌∙◌, ◌≡◌, ap, ap₂, refl, subst, sym}
use Prim.Native.Nat.{◌≤◌, ℕ}
use native.Mathlib.Omega.{arith}
use lib.ListN.{length}
use Rattle.std.specs.declared.option.Option.{Option}
use Rattle.automata.specs.Acyclic.{acyclic}
use Rattle.automata.specs.Automaton.{Automaton}
use Rattle.automata.specs.Order.{rising}
use Rattle.automata.specs.Totals.{sum_accepting, total}
use Rattle.fields.specs.View.{Viewed, viewed}
use Rattle.fields.proofs.Transitions.{part_body, passed-table}
use Rattle.format.specs.Format.{head_bytes, max_transitions, table_bytes}
use Rattle.lists.specs.Positions.{up_from}
use Rattle.lists.proofs.Parts.{part}
use Rattle.table.specs.Intake.{table_refusal}
use Rattle.table.specs.Layout.{body, decode, state_count, transition_count, transitions_in}
use Rattle.table.proofs.Intake.{unrefused-passes}
use Rattle.totals.specs.Limited.{total_of}
use Rattle.totals.specs.Numbers.{NumbersOf, number_in}
use Rattle.totals.proofs.Accepting.{viewed-total}

pub passed_length : (b : List ℕ) → table_refusal b ≡ 0 → length b ≡ table_bytes
passed_length b passed = (unrefused-passes b passed).length

module _ (b : List ℕ) {n k : ℕ} (count : k ≡ transition_count b) (states : n ≡ state_count b) where
  -- the automaton that code sees is the table's
  pub seen-decoded : viewed b (part b head_bytes) n k ≡ decode b
  unfolding decode
  seen-decoded =
      ap₂ (λ (s : List ℕ) (j : ℕ). viewed b s n j) (part_body b) count
      ∙ ap (λ (i : ℕ). viewed b (body b) i (transition_count b)) states

  -- what the code above the table asks
  pub passed-seen : table_refusal b ≡ 0 → Viewed b (part b head_bytes) n k ×
      ((rising (transitions_in (part b head_bytes) k) ≡ true) × ((k ≤ max_transitions) ×
      (acyclic (viewed b (part b head_bytes) n k) ≡ true)))
  passed-seen passed =
      let t = passed-table b passed in
      let p = unrefused-passes b passed in (
        rw (part_body b, count, states)
            (record { over = t.over; states = omega arith; classes = omega arith }),
        (
          ap (λ (A : Automaton). rising A.transitions) seen-decoded ∙ p.valid.rises,
          (omega arith, ap acyclic seen-decoded ∙ p.acyclic),
        ),
      )

-- the sum over the accepting states of a table is its total
pub passed-total : (b : List ℕ) {n : ℕ} {m : List (Option ℕ)} {r : Option ℕ} → table_refusal b ≡ 0 → n ≡ state_count b →
    NumbersOf (decode b) m → r ≡ total_of (sum_accepting (viewed b [] n 0) (number_in m) (up_from 1 n)) →
    r ≡ total_of (total (decode b))
passed-total b {n} {m} {r} passed states x e =
    let seen = passed-seen b refl states passed in
    let same = seen-decoded b refl states in
    viewed-total b (part b head_bytes) n (transition_count b) seen.0.over seen.1.0 seen.1.1.1
    (subst (λ (A : Automaton). NumbersOf A m) (sym same) x) e
    ∙ ap (λ (A : Automaton). total_of (total A)) same

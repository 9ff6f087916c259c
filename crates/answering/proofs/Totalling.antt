-- The total: refused by the table's check, or the number of trees.
use mathlib.Core.Bool.{Bool, cond, false, true}
use mathlib.Core.List.{List}
use mathlib.Core.Logic.{◌≢◌}
use mathlib.Core.Path.{◌∙◌, ◌≡◌, ap, refl, sym}
use Prim.Native.Nat.{ℕ}
use lib.Dec.{ltb}
use borrow.Author.Tests.{eq-eqb}
use Rattle.automata.specs.Totals.{total}
use Rattle.calls.specs.Calls.{total_answer, totalled}
use Rattle.calls.specs.declared.Answer.{Answer}
use Rattle.calls.specs.declared.Answer.TheVariants.{Over as TooMany, Refused, Total as Counted}
use Rattle.format.specs.Format.{number_limit}
use Rattle.table.specs.Intake.{table_refusal}
use Rattle.table.specs.Layout.{decode}
use Rattle.totals.specs.Limited.{total_of}
use Rattle.std.specs.declared.option.Option.{Option}
use Rattle.std.specs.declared.option.Option.TheVariants.{None, Some}
use Rattle.answering.proofs.Reading.{refused-or}

-- the answer for a number of trees, as crate totals has it
abbrev from_total : Option ℕ → Answer
from_total (Some n) = Counted n
from_total None = TooMany

from-total : (n : ℕ) → from_total (total_of n) ≡ totalled n
unfolding total_of totalled
from-total n = go (ltb n number_limit)
  where
    go : (b : Bool) → from_total (cond b (Some n) None) ≡ cond b (Counted n) TooMany
    go true = refl
    go false = refl

pub total-refused : (b : List ℕ) {r : ℕ} → r ≡ table_refusal b → r ≢ 0 → Refused r ≡ total_answer b
unfolding total_answer
total-refused b {r} e n = ap Refused e ∙ sym (refused-or (table_refusal b) _ (λ d. n (e ∙ d)))

pub total-answered : (b : List ℕ) {r : ℕ} → r ≡ table_refusal b → r ≡ 0 → {x : Option ℕ} → x ≡ total_of (total (decode b)) →
    (y : Option ℕ) → x ≡ y → from_total y ≡ total_answer b
unfolding total_answer
total-answered b e z f y d =
    rw (eq-eqb (table_refusal b) 0 (sym e ∙ z)) (ap from_total (sym d ∙ f) ∙ from-total (total (decode b)))

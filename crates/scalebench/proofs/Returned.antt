-- What a host gets back: the number of an answer beside what the call leaves.
use mathlib.Core.List.{List}
use mathlib.Core.Path.{◌∙◌, ◌≡◌, ap, refl}
use Prim.Native.Nat.{ℕ}
use Rattle.calls.specs.Answers.{answer_number, number_after}
use Rattle.calls.specs.Calls.{Result}
use Rattle.calls.specs.declared.Answer.{Answer}
use Rattle.calls.specs.declared.Answer.TheVariants.{Accepted, Approved, Done, Finished, NotAt, NotPart, Over, Refused}
use Rattle.calls.specs.declared.Answer.TheVariants.{Serial, Total}
use Rattle.change.specs.Changing.{result_of}

-- the three parts of a result for a host
pub returned : (a : Answer) {b w : List ℕ} {x : Result} → result_of a b w ≡ x → {k : ℕ} → k ≡ answer_number a →
    (k ≡ answer_number x.answer) × (b ≡ x.table) × (w ≡ x.scratch)
returned a e d = (
  d ∙ ap (λ (y : Result). answer_number y.answer) e,
  ap (λ (y : Result). y.table) e,
  ap (λ (y : Result). y.scratch) e,
)

-- an answer that has neither a total nor a tree's number leaves the number that was lent
pub other-number : (a : Answer) (old : ℕ) → ((k : ℕ) → a ≡ Total k → ⊥) → ((k : ℕ) → a ≡ Serial k → ⊥) →
    old ≡ number_after a old
other-number Approved old t s = refl
other-number NotPart old t s = refl
other-number (NotAt k) old t s = refl
other-number (Accepted j k) old t s = refl
other-number (Done j k) old t s = refl
other-number (Total n) old t s = absurd (t n refl)
other-number Over old t s = refl
other-number (Serial n) old t s = absurd (s n refl)
other-number Finished old t s = refl
other-number (Refused k) old t s = refl

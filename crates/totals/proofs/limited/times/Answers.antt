-- `totals::limited::times` meets its contract: a factor that is over makes the product over, unless the other is 0.
use native.Mathlib.Nat.{le-mul_of_pos_right, mul_comm}
use native.Mathlib.Omega.{arith}
use mathlib.Core.Path.{◌∙◌, ◌≡◌, ap, sym}
use Rattle.totals.specs.Limited.{limit, worth}
use Rattle.totals.proofs.Limits.{none-zero, some-not-zero, total-checked, total-is, total-over}
use Rattle.totals.proofs.limited.times.Goals.{then-eq-via-then-eq, then-eq-via-else-eq+then-eq-2}
use Rattle.totals.proofs.limited.times.Goals as goal

pub returns-then-eq : goal.returns-then-eq
returns-then-eq c = elim c.then-eq.branch [
  | then-eq-via-then-eq w ↦
      let z : worth c.args.a ≡ 0 = none-zero c.args.a (sym w.if-eq.ensures) in
      total-is (rw z (omega arith)) (rw z (omega arith))
  | then-eq-via-else-eq+then-eq-2 w ↦
      let z : worth c.args.b ≡ 0 = none-zero c.args.b (sym w.if-eq-2.ensures) in
      total-is (rw z (omega arith)) (rw z (omega arith))
]

pub returns-in_err-a : goal.returns-in_err-a
returns-in_err-a c =
    c.from_residual.ensures
    ∙ rw (ap worth c.in_err-a.was)
    (total-over (le-mul_of_pos_right limit (some-not-zero c.args.b (sym c.if-eq-2.ensures))))

pub returns-in_err-b : goal.returns-in_err-b
returns-in_err-b c =
    c.from_residual-in_err-b.ensures
    ∙ rw (ap worth c.in_err-b.was)
    (total-over (rw (mul_comm (worth c.args.a) limit) (le-mul_of_pos_right limit (some-not-zero c.args.a (sym c.if-eq.ensures)))))

pub returns : goal.returns
returns c =
    rw (ap worth c.in_ok-a.was, ap worth c.in_ok-b.was)
    (total-checked _ c.checked_mul.result c.checked_mul.ensures)

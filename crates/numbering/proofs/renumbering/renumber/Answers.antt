use native.Mathlib.Omega.{arith}
use Rattle.numbering.proofs.Numbers.{renumbered-next}
use Rattle.numbering.proofs.renumbering.renumber.Goals as goal

pub loop-i-preserved : goal.loop-i-preserved
loop-i-preserved c =
    renumbered-next c.loop-i.invariant c.requires.holds_packed (omega arith) c.requires.all_bytes c.requires.numbers_value
    (record {
      args = λ k l. c.in-Some.ensures.has k (omega (arith, c.arity_of.ensures));
      out = c.has_number.ensures c.if-not-has_number.false;
    })
    c.head_by_number.ensures (rw c.arity_of.ensures at c.in-Some.ensures.packed)

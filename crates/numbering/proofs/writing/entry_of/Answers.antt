use native.Mathlib.Omega.{arith}
use Rattle.numbering.proofs.Tables.{entry_next}
use Rattle.numbering.proofs.writing.entry_of.Goals as goal

pub loop-k-preserved : goal.loop-k-preserved
loop-k-preserved c =
    entry_next c.loop-k.invariant (omega arith) c.place_of.ensures.value c.put_arg.ensures

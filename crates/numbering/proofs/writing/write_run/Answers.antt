use Rattle.numbering.proofs.Tables.{run-next}
use Rattle.numbering.proofs.writing.write_run.Goals as goal

pub loop-i-preserved : goal.loop-i-preserved
loop-i-preserved c = run-next c.loop-i.invariant c.entry_of-entry.ensures c.write.ensures

-- `numbering::writing::write_run` meets its contract: the first i transitions are written.
use Rattle.numbering.specs.Tables.{RunPut}
use Rattle.numbering.proofs.writing.write_run.Given as goal

abbrev pub invariant-loop-i : goal.invariant-loop-i
invariant-loop-i l = RunPut l.initial.to l.to l.transitions.heads.now l.transitions.args.now l.start l.i

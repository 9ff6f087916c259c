-- `quotient::kept::keep` meets its contract: the names above x stand in their chains.
use Rattle.quotient.specs.Candidates.{KeptIn}
use Rattle.quotient.proofs.kept.keep.Given as goal

abbrev pub invariant-loop-x : goal.invariant-loop-x
invariant-loop-x l = KeptIn l.candidates l.x l.kept

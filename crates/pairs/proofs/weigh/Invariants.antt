-- `pairs::weigh` meets its contract: in the loop the entries before `q` are filled in.
use Rattle.format.specs.Format.{byte_values}
use Rattle.lists.proofs.Filling.{FilledTo}
use Rattle.pairs.specs.Counts.{weight_of}
use Rattle.pairs.proofs.weigh.Given as goal

abbrev pub invariant-loop-q : goal.invariant-loop-q
invariant-loop-q l = FilledTo byte_values (weight_of l.counts l.marks) l.weights l.q

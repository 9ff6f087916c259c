-- `numbering::looking::seen_up_to` meets its contract: all states up to q have been seen.
use Rattle.numbering.specs.Steps.{AllSeen}
use Rattle.numbering.proofs.looking.seen_up_to.Given as goal

abbrev pub invariant-loop-q : goal.invariant-loop-q
invariant-loop-q l = AllSeen l.seen l.q

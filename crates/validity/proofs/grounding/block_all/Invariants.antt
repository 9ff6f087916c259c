-- `validity::grounding::block_all` meets its contract: the transitions before i have blocked their outputs.
use Rattle.validity.specs.Rules.{Blocks}
use Rattle.validity.proofs.grounding.block_all.Given as goal

abbrev pub invariant-loop-i : goal.invariant-loop-i
invariant-loop-i l = Blocks l.transitions l.marks l.i l.blocked

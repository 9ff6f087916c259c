-- `partition::repairing::mated_states` meets its contract: the states before q that share their part are marked.
use Rattle.partition.proofs.Filling.{MatedBelow}
use Rattle.partition.proofs.repairing.mated_states.Given as goal

abbrev pub invariant-loop-q : goal.invariant-loop-q
invariant-loop-q l = MatedBelow l.parts l.q l.mated

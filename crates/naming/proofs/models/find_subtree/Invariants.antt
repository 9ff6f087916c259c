-- `naming::models::find_subtree` meets its contract: the subtrees before `v` were tried.
use Rattle.naming.proofs.Choosing.{SubtreesTried}
use Rattle.naming.proofs.models.find_subtree.Given as goal

abbrev pub invariant-loop-v : goal.invariant-loop-v
invariant-loop-v l = SubtreesTried l.setting l.names l.j l.v

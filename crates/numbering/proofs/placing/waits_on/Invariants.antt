-- `numbering::placing::waits_on` meets its contract: a name is a byte.
use Prim.Native.Nat.{◌<◌}
use Rattle.numbering.proofs.placing.waits_on.Given as goal

abbrev pub invariant-loop-k : goal.invariant-loop-k
invariant-loop-k l = l.most < 256

use native.Mathlib.Omega.{arith}
use native.Mathlib.Nat.{zero-add}
use Rattle.format.specs.Format.{max_arity}
use Rattle.lists.proofs.Loops.{clean-start, clean-next, clean_end}
use Rattle.uses.proofs.scanning.has_neither.Goals as goal

pub loop-k-init : goal.loop-k-init
loop-k-init c = clean-start max_arity (zero-add max_arity)

pub loop-k-preserved : goal.loop-k-preserved
loop-k-preserved c = clean-next c.loop-k.invariant (omega arith) c.is_neither-neither.ensures

pub returns : goal.returns
returns c = clean_end c.loop-k.invariant (omega arith)

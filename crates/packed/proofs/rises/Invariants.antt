-- `packed::rises` meets its contract: each transition but the last is compared with the next.
use Rattle.packed.proofs.Order.{RisesFrom}
use Rattle.packed.proofs.rises.Given as goal

abbrev pub invariant-loop-i : goal.invariant-loop-i
invariant-loop-i l = RisesFrom l.transitions l.count l.meta l.args l.i

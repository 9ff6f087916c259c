-- `minimize::number::number` meets its contract: the rest of the numbering continues the order so far.
use Rattle.minimize.proofs.Ordering.{Ordering}
use Prim.Native.Nat.{◌-◌}
use Rattle.minimize.proofs.number.number.Given as goal

abbrev pub invariant-loop-first : goal.invariant-loop-first
invariant-loop-first l = Ordering l.transitions l.count l.order l.numbers l.k

abbrev pub decreases-loop-first : goal.decreases-loop-first
decreases-loop-first l = 256 - l.k

-- The slot of any place will do.
use Prim.Native.Nat.{◌≤◌}
use Rattle.uses.proofs.using.transition_slot.Given as goal

abbrev pub invariant-loop-k : goal.invariant-loop-k
invariant-loop-k l = l.k ≤ l.arity

-- The loop at k has filled the first k bytes with states.
use Prim.Native.Nat.{◌≤◌}
use Rattle.subtrees.specs.Steps.{Filled}
use Rattle.alike.specs.Agreeing.{state_of}
use Rattle.alike.proofs.nodes.states_of.Given as goal

abbrev pub invariant-loop-k : goal.invariant-loop-k
invariant-loop-k l = (l.k ≤ l.arity) × Filled (state_of l.states l.numbers) l.k l.qs

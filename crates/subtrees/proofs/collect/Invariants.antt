-- The loop at i has gone through the nodes from i on: their trees are on the stack, their subtrees in the arrays.
use Rattle.subtrees.proofs.Collecting.{Collecting}
use Rattle.subtrees.proofs.collect.Given as goal

abbrev pub invariant-loop-i : goal.invariant-loop-i
invariant-loop-i l = Collecting l.tree l.reached l.i l.top l.subtrees.count l.stack l.subtrees.labels l.subtrees.arities l.subtrees.children l.subtrees.states

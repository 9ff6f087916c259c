-- At k the loop's result is that for the children from k on.
use Rattle.lists.proofs.Loops.{EveryFrom}
use Rattle.lists.specs.Positions.{up_from}
use Rattle.lists.specs.Tests.{every}
use Rattle.subtrees.specs.Steps.{same_child}
use Rattle.subtrees.proofs.same_children.Given as goal

abbrev pub invariant-loop-k : goal.invariant-loop-k
invariant-loop-k l = EveryFrom (every (same_child l.children l.j l.numbers) (up_from 0 l.arity)) (same_child l.children l.j l.numbers) l.arity l.k

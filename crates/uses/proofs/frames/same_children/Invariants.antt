-- At x the loop's result is that for the children from x on.
use Rattle.lists.proofs.Loops.{EveryFrom}
use Rattle.lists.specs.Positions.{up_from}
use Rattle.lists.specs.Tests.{every}
use Rattle.uses.specs.Frames.{same_child}
use Rattle.uses.proofs.frames.same_children.Given as goal

abbrev pub invariant-loop-x : goal.invariant-loop-x
invariant-loop-x l = EveryFrom (every (same_child l.children l.k l.i l.h) (up_from 0 l.arity)) (same_child l.children l.k l.i l.h) l.arity l.x

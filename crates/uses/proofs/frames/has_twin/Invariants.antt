-- At h the loop's result is that for the nodes from h on.
use Rattle.lists.proofs.Loops.{AnyFrom}
use Rattle.lists.specs.Positions.{up_from}
use Rattle.lists.specs.Tests.{any}
use Rattle.uses.specs.Frames.{twin}
use Rattle.uses.proofs.frames.has_twin.Given as goal

abbrev pub invariant-loop-h : goal.invariant-loop-h
invariant-loop-h l = AnyFrom (any (twin l.subtrees.labels l.subtrees.arities l.subtrees.children l.j l.k l.i) (up_from 0 l.subtrees.count)) (twin l.subtrees.labels l.subtrees.arities l.subtrees.children l.j l.k l.i) l.subtrees.count l.h

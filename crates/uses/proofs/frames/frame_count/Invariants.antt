-- In the loop the count so far and the count of the rest add up to the whole.
use Rattle.uses.specs.Frames.{frame_count, framed}
use Rattle.uses.proofs.Counting.{CountFrom}
use Rattle.uses.proofs.frames.frame_count.Given as goal

abbrev pub invariant-loop-i : goal.invariant-loop-i
invariant-loop-i l = CountFrom (frame_count l.transitions l.at l.k l.subtrees.labels l.subtrees.arities l.subtrees.children l.subtrees.states l.subtrees.count l.frames.first l.frames.second)
    (framed l.transitions l.at l.k l.subtrees.labels l.subtrees.arities l.subtrees.children l.subtrees.states l.subtrees.count l.frames.first l.frames.second) l.subtrees.count l.found l.i

-- At x the loop's result is that for the children from x on.
use Rattle.lists.proofs.Loops.{EveryFrom}
use Rattle.lists.specs.Positions.{up_from}
use Rattle.lists.specs.Tests.{every}
use Rattle.table.specs.Layout.{arity_of}
use Rattle.uses.specs.Frames.{same_sibling}
use mathlib.Core.Path.{◌≡◌}
use Rattle.uses.proofs.frames.same_siblings.Given as goal

abbrev pub invariant-loop-x : goal.invariant-loop-x
invariant-loop-x l = (l.arity ≡ arity_of l.transitions l.at) × EveryFrom (every (same_sibling l.transitions l.at l.k l.subtrees.children l.subtrees.states l.i) (up_from 0 (arity_of l.transitions l.at))) (same_sibling l.transitions l.at l.k l.subtrees.children l.subtrees.states l.i) (arity_of l.transitions l.at) l.x

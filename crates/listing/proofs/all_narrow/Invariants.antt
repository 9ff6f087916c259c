-- The loop's answer for all nodes is its answer for those that it has not yet looked at.
use Rattle.lists.proofs.Loops.{EveryFrom}
use Rattle.trees.specs.Listing.{all_narrow, narrow, nodes_in}
use Rattle.listing.proofs.all_narrow.Given as goal

abbrev pub invariant-loop-i : goal.invariant-loop-i
invariant-loop-i l = EveryFrom (all_narrow l.s) (narrow l.s) (nodes_in l.s) l.i

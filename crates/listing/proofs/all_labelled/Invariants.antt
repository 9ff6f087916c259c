-- The loop's answer for all nodes is its answer for those that it has not yet looked at.
use Rattle.lists.proofs.Loops.{EveryFrom}
use Rattle.trees.specs.Listing.{all_labelled, labelled, nodes_in}
use Rattle.listing.proofs.all_labelled.Given as goal

abbrev pub invariant-loop-i : goal.invariant-loop-i
invariant-loop-i l = EveryFrom (all_labelled l.s) (labelled l.s) (nodes_in l.s) l.i

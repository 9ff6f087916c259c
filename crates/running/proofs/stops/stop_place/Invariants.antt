-- `running::stops::stop_place` meets its contract: the walk ends at the stop, for every automaton with these states.
use Prim.Native.Nat.{◌-◌}
use Rattle.trees.specs.Listing.{nodes_in}
use Rattle.running.proofs.Stopping.{Walking}
use Rattle.running.proofs.stops.stop_place.Given as goal

abbrev pub invariant-loop-left : goal.invariant-loop-left
invariant-loop-left l = Walking l.tree l.states l.stop l.left l.i

abbrev pub decreases-loop-left : goal.decreases-loop-left
decreases-loop-left l = nodes_in l.tree - l.i

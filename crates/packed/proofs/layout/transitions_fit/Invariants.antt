-- `packed::layout::transitions_fit` meets its contract: in the loop the result is that for the transitions left.
use Rattle.lists.specs.Positions.{up_from}
use Rattle.lists.specs.Tests.{every}
use Rattle.table.specs.Layout.{nth_fits}
use Rattle.lists.proofs.Loops.{EveryFrom}
use Rattle.packed.proofs.layout.transitions_fit.Given as goal

abbrev pub invariant-loop-i : goal.invariant-loop-i
invariant-loop-i l = EveryFrom (every (nth_fits l.transitions l.states) (up_from 0 l.count)) (nth_fits l.transitions l.states) l.count l.i

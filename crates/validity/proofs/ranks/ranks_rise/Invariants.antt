-- `validity::ranks::ranks_rise` meets its contract: the answer is that of the transitions left.
use Rattle.lists.specs.Tests.{every}
use Rattle.table.specs.Layout.{nth_transition, transitions_in}
use Rattle.lists.proofs.Loops.{EveryFrom}
use Rattle.validity.specs.Ranks.{rank_of, rises_by}
use Rattle.validity.proofs.ranks.ranks_rise.Given as goal

abbrev pub invariant-loop-i : goal.invariant-loop-i
invariant-loop-i l = EveryFrom (every (rises_by (rank_of l.ranks)) (transitions_in l.transitions l.count)) (λ j. rises_by (rank_of l.ranks)
    (nth_transition l.transitions j)) l.count l.i

-- `ranks::ranking::rank_within` meets its contract: the loop at i has counted the trees from node i on.
use Rattle.table.specs.Layout.{transitions_in}
use Rattle.totals.specs.Numbers.{number_in}
use Rattle.ranks.proofs.NodePass.{Ranking}
use Rattle.ranks.proofs.ranking.rank_within.Given as goal

abbrev pub invariant-loop-i : goal.invariant-loop-i
invariant-loop-i l = Ranking (transitions_in l.transitions l.count) (number_in l.numbers) l.tree l.reached l.stack l.top l.i l.number

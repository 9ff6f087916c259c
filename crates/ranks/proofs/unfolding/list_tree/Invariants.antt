-- `ranks::unfolding::list_tree` meets its contract: the nodes written and the trees to come list the tree.
use Prim.Native.Nat.{◌-◌}
use Rattle.format.specs.Format.{max_nodes}
use Rattle.totals.specs.Numbers.{number_in}
use Rattle.ranks.proofs.Listings.{Walk}
use Rattle.ranks.proofs.unfolding.list_tree.Given as goal

abbrev pub invariant-loop-top : goal.invariant-loop-top
invariant-loop-top l = Walk (number_in l.numbers) l.transitions l.count l.n l.q l.number l.states l.lefts l.bytes l.top l.nodes

abbrev pub decreases-loop-top : goal.decreases-loop-top
decreases-loop-top l = max_nodes - l.nodes

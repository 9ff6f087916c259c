-- `ranks::unfolding::put_children` meets its contract: the first `k` children are put.
use mathlib.Core.Path.{◌≡◌}
use Rattle.table.specs.Layout.{arity_of}
use Rattle.totals.specs.Numbers.{number_in}
use Rattle.ranks.proofs.Pending.{PutTo}
use Rattle.ranks.proofs.unfolding.put_children.Given as goal

abbrev pub invariant-loop-k : goal.invariant-loop-k
invariant-loop-k l = (l.arity ≡ arity_of l.transitions l.at)
    × PutTo (number_in l.numbers) l.transitions l.at l.number l.top l.initial.states l.initial.lefts l.states l.lefts l.left l.k

-- `validity::ranks::args_below` meets its contract: the answer is that of the arguments left.
use Rattle.std.proofs.Common.{◌≡◌, ltb}
use Rattle.lists.specs.Tests.{every}
use Rattle.table.specs.Layout.{arg_of, arity_of, transition_at}
use Rattle.lists.proofs.Loops.{EveryFrom}
use Rattle.validity.specs.Ranks.{rank_of}
use Rattle.validity.proofs.ranks.args_below.Given as goal

abbrev pub invariant-loop-k : goal.invariant-loop-k
invariant-loop-k l = (l.arity ≡ arity_of l.transitions l.at) × EveryFrom (every (λ q. ltb (rank_of l.ranks q) l.bound) (transition_at l.transitions l.at).args)
    (λ j. ltb (rank_of l.ranks (arg_of l.transitions l.at j)) l.bound) (arity_of l.transitions l.at) l.k

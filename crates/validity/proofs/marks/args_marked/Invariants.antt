-- `validity::marks::args_marked` meets its contract: the answer is that of the arguments left.
use Rattle.std.proofs.Common.{◌≡◌}
use Rattle.lists.specs.Tests.{every}
use Rattle.marking.specs.Marks.{marked}
use Rattle.table.specs.Layout.{arg_of, arity_of, transition_at}
use Rattle.lists.proofs.Loops.{EveryFrom}
use Rattle.validity.proofs.marks.args_marked.Given as goal

abbrev pub invariant-loop-k : goal.invariant-loop-k
invariant-loop-k l = (l.arity ≡ arity_of l.transitions l.at) × EveryFrom (every (marked l.marks) (transition_at l.transitions l.at).args)
    (λ j. marked l.marks (arg_of l.transitions l.at j)) (arity_of l.transitions l.at) l.k

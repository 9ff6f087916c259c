-- `pairs::opening::some_marked` meets its contract: in the loop the result is that for the arguments left.
use mathlib.Core.Path.{◌≡◌}
use Rattle.lists.specs.Tests.{any}
use Rattle.marking.specs.Marks.{marked}
use Rattle.table.specs.Layout.{arg_of, arity_of, transition_at}
use Rattle.lists.proofs.Loops.{AnyFrom}
use Rattle.pairs.proofs.opening.some_marked.Given as goal

abbrev pub invariant-loop-k : goal.invariant-loop-k
invariant-loop-k l = (l.arity ≡ arity_of l.transitions l.at) × AnyFrom (any (marked l.marks) (transition_at l.transitions l.at).args)
    (λ j. marked l.marks (arg_of l.transitions l.at j)) (arity_of l.transitions l.at) l.k

-- `packed::layout::args_in_range` meets its contract: in the loop the result is that for the arguments left.
use Rattle.lists.specs.Positions.{up_from}
use Rattle.lists.specs.Tests.{every}
use Rattle.packed.specs.Places.{arg_in_range}
use Rattle.lists.proofs.Loops.{EveryFrom}
use Rattle.packed.proofs.layout.args_in_range.Given as goal

abbrev pub invariant-loop-k : goal.invariant-loop-k
invariant-loop-k l = EveryFrom (every (arg_in_range l.transitions l.states l.at) (up_from 0 l.arity)) (arg_in_range l.transitions l.states l.at) l.arity l.k

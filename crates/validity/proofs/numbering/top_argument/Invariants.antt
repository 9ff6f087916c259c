-- `validity::numbering::top_argument` meets its contract: the greatest place is that of the ones read and the
-- ones left.
use Rattle.std.proofs.Common.{map}
use Rattle.automata.specs.Numbered.{top}
use Rattle.format.specs.Format.{max_arity}
use Rattle.lists.specs.Positions.{up_from}
use Rattle.table.specs.Layout.{arg_of}
use Rattle.validity.proofs.Arguments.{TopFrom}
use Rattle.validity.proofs.numbering.top_argument.Given as goal

abbrev pub invariant-loop-k : goal.invariant-loop-k
invariant-loop-k l = TopFrom (top (map (arg_of l.transitions l.at) (up_from 0 max_arity))) (arg_of l.transitions l.at) max_arity l.t l.k

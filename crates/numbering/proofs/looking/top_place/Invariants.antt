-- `numbering::looking::top_place` meets its contract: the greatest of those read and of those left is the greatest of
-- all.
use mathlib.Core.List.{map}
use Rattle.automata.specs.Numbered.{top}
use Rattle.lists.specs.Positions.{up_from}
use Rattle.packed.specs.Heads.{place_of}
use Rattle.validity.proofs.Arguments.{TopFrom}
use Rattle.numbering.proofs.looking.top_place.Given as goal

abbrev pub invariant-loop-k : goal.invariant-loop-k
invariant-loop-k l = TopFrom (top (map (place_of l.args) (up_from 0 l.arity))) (place_of l.args) l.arity l.t l.k

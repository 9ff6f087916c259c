-- `fields::find` meets its contract: what the search finds is what it finds among the transitions left.
use Rattle.fields.proofs.Searching.{AgreeTo, SearchFrom}
use Rattle.table.specs.Layout.{transitions_in}
use Rattle.lists.specs.Tests.{any}
use Rattle.automata.specs.Automaton.{lookup, matches}
use lib.ListN.{take}
use Prim.Native.Nat.{◌-◌}
use Rattle.fields.proofs.find.Given as goal

abbrev pub invariant-loop-k : goal.invariant-loop-k
invariant-loop-k l = AgreeTo l.transitions l.at l.arity l.args l.k

abbrev pub invariant-search : goal.invariant-search
invariant-search l = SearchFrom (lookup l.label (take l.arity l.args) (transitions_in l.transitions l.count))
    (any (matches l.label (take l.arity l.args)) (transitions_in l.transitions l.count))
    l.label (take l.arity l.args) l.transitions l.count l.i

abbrev pub decreases-search : goal.decreases-search
decreases-search l = l.count - l.i

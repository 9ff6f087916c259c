-- `numbering::writing::entry_of` meets its contract: in the loop the first k arguments are there.
use Rattle.numbering.proofs.Tables.{EntryTo}
use Rattle.numbering.proofs.writing.entry_of.Given as goal

abbrev pub invariant-loop-k : goal.invariant-loop-k
invariant-loop-k l = EntryTo l.entry l.head l.args l.k

-- `numbering::renumbering::renumber` meets its contract: in the loop the first i transitions have numbers for names,
-- the others are unchanged.
use Rattle.numbering.proofs.Numbers.{RenumberedTo}
use Rattle.numbering.proofs.renumbering.renumber.Given as goal

abbrev pub invariant-loop-i : goal.invariant-loop-i
invariant-loop-i l = RenumberedTo l.numbers l.initial.heads l.initial.args l.heads l.args l.count l.i

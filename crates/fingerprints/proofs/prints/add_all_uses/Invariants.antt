-- `fingerprints::prints::add_all_uses` meets its contract: the uses in the transitions before `i` are added.
use Rattle.fingerprints.specs.Fingerprints.{gains}
use Rattle.fingerprints.proofs.Adding.{Filling}
use Rattle.fingerprints.proofs.Adding.{gains_from}
use Rattle.table.specs.Layout.{transitions_in}
use Rattle.fingerprints.proofs.prints.add_all_uses.Given as goal

abbrev pub invariant-loop-i : goal.invariant-loop-i
invariant-loop-i l = Filling (gains (transitions_in l.transitions l.count)) (gains_from l.transitions l.count l.i) l.initial.prints l.prints

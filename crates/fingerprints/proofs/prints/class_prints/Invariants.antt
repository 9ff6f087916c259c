-- `fingerprints::prints::class_prints` meets its contract: the states before `q` have their class.
use Rattle.fingerprints.proofs.Adding.{ClassBelow}
use Rattle.fingerprints.proofs.prints.class_prints.Given as goal

abbrev pub invariant-loop-q : goal.invariant-loop-q
invariant-loop-q l = ClassBelow l.classes l.q l.prints

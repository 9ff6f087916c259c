-- `fingerprints::differing::differs_below` meets its contract: what differs so far, and the states left.
use Rattle.std.proofs.Common.{◌≡◌}
use Rattle.fingerprints.specs.Fingerprints.{differs, differs_below, print_of}
use Rattle.lists.proofs.Loops.{CleanFrom}
use Rattle.fingerprints.proofs.differing.differs_below.Given as goal

abbrev pub invariant-loop-p : goal.invariant-loop-p
invariant-loop-p l = (l.print ≡ print_of l.prints l.q) × CleanFrom (differs_below l.prints l.q) l.alone (differs l.prints l.q) l.q l.p

-- `fingerprints::prints::add_uses` meets its contract: what is gained is what the places passed give.
use Rattle.format.specs.Format.{transition_bytes}
use Rattle.std.proofs.Common.{◌≡◌, ◌*◌}
use Rattle.fingerprints.specs.Fingerprints.{gain, salted, xored}
use Rattle.fingerprints.proofs.Adding.{Filling}
use Rattle.fingerprints.proofs.Adding.{gain_from}
use Rattle.table.specs.Layout.{arity_of, label_of, nth_transition}
use Rattle.fingerprints.proofs.prints.add_uses.Given as goal

abbrev pub invariant-loop-k : goal.invariant-loop-k
invariant-loop-k l = (l.arity ≡ arity_of l.transitions (transition_bytes * l.i)) ×
    (l.all ≡ xored (nth_transition l.transitions l.i).args 0 (salted (label_of l.transitions (transition_bytes * l.i)) l.x)) ×
    Filling (gain (nth_transition l.transitions l.i) l.x) (gain_from l.transitions (transition_bytes * l.i) l.x l.k) l.initial.prints l.prints

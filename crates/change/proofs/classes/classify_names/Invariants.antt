-- `change::classes::classify_names` meets its contract: in the loop the classes of the names below p are there.
use Prim.Native.Nat.{◌+◌, ◌-◌, ◌≤◌}
use Rattle.change.specs.Classes.{class_of_name}
use Rattle.change.proofs.Classing.{ClassedBelow}
use Rattle.change.proofs.classes.classify_names.Given as goal

abbrev pub invariant-loop-p : goal.invariant-loop-p
invariant-loop-p l = (1 ≤ l.p) × (l.p ≤ l.n + l.m + 1) × ClassedBelow (class_of_name l.table l.n l.states (l.n + l.m) l.inserting) l.classes l.p

-- `naming::classes::classify` meets its contract: in the loop the classes below index `j` are there.
use Prim.Native.Nat.{◌≤◌}
use Rattle.naming.specs.Classes.{subtree_class}
use Rattle.naming.proofs.Classing.{ClassedTo}
use Rattle.naming.proofs.classes.classify.Given as goal

abbrev pub invariant-loop-j : goal.invariant-loop-j
invariant-loop-j l = (l.j ≤ l.m) × ClassedTo (subtree_class l.table l.states l.root l.inserting) l.classes l.j

-- `naming::name_all` meets its contract: the subtrees from `j` on have their names.
use Prim.Native.Nat.{◌-◌}
use Rattle.naming.proofs.Giving.{NamesGiven}
use Rattle.naming.proofs.name_all.Given as goal

abbrev pub invariant-loop-j : goal.invariant-loop-j
invariant-loop-j l = NamesGiven l.table l.setting l.marks l.names l.shared (l.j - 1)

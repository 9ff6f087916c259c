-- `naming::parents::note_parents` meets its contract: the parents before index `i` are noted.
use Prim.Native.Nat.{◌*◌, ◌≤◌}
use Rattle.format.specs.Format.{max_arity}
use Rattle.naming.specs.Parents.{ParentsNoted}
use Rattle.naming.proofs.parents.note_parents.Given as goal

abbrev pub invariant-loop-i : goal.invariant-loop-i
invariant-loop-i l = (l.i ≤ l.setting.subtrees.now.count) × ParentsNoted l.setting.subtrees.now.arities l.setting.subtrees.now.children l.i (max_arity * l.i) l.parents.froms l.parents.tos

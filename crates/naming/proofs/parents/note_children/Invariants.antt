-- `naming::parents::note_children` meets its contract: the children before `k` are noted.
use mathlib.Core.Path.{◌≡◌}
use Prim.Native.Nat.{◌*◌, ◌+◌, ◌≤◌}
use lib.ListN.{get_or}
use Rattle.format.specs.Format.{max_arity}
use Rattle.naming.specs.Parents.{ParentsNoted}
use Rattle.naming.proofs.parents.note_children.Given as goal

abbrev pub invariant-loop-k : goal.invariant-loop-k
invariant-loop-k l = (l.arity ≡ get_or l.setting.subtrees.now.arities l.i 0) × (l.k ≤ l.arity) × ParentsNoted l.setting.subtrees.now.arities l.setting.subtrees.now.children (l.i + 1) (max_arity * l.i + l.k) l.parents.froms l.parents.tos

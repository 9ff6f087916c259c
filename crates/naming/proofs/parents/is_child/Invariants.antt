-- `naming::parents::is_child` meets its contract: at `k` the loop's result is that for the places left.
use mathlib.Core.Path.{◌≡◌}
use Prim.Native.Nat.{◌-◌}
use lib.ListN.{get_or}
use Rattle.naming.specs.Parents.{child_is, is_child}
use Rattle.lists.proofs.Loops.{AnyFrom}
use Rattle.naming.proofs.parents.is_child.Given as goal

abbrev pub invariant-loop-k : goal.invariant-loop-k
invariant-loop-k l = (l.arity ≡ get_or l.setting.subtrees.now.arities (l.i - 1) 0) × AnyFrom (is_child l.setting.subtrees.now.arities l.setting.subtrees.now.children l.i l.j) (child_is l.setting.subtrees.now.children l.i l.j) (get_or l.setting.subtrees.now.arities (l.i
    - 1) 0) l.k

-- `naming::parents::raised` meets its contract: at `i` the loop's result is that for the parents left.
use Prim.Native.Nat.{◌+◌, ◌-◌, ◌≤◌}
use Rattle.lists.specs.Positions.{up_from}
use Rattle.lists.specs.Tests.{any}
use Rattle.naming.specs.Parents.{raises}
use Rattle.lists.proofs.Loops.{AnyFrom}
use Rattle.naming.proofs.parents.raised.Given as goal

abbrev pub invariant-loop-i : goal.invariant-loop-i
invariant-loop-i l = (l.sought.from ≤ l.i) × AnyFrom (any (raises l.sought.setting.now.n l.sought.setting.now.subtrees.now.arities l.sought.setting.now.subtrees.now.children l.sought.names.now l.sought.j) (up_from (l.sought.j + 1) (l.sought.setting.now.subtrees.now.count - l.sought.j)))
    (raises l.sought.setting.now.n l.sought.setting.now.subtrees.now.arities l.sought.setting.now.subtrees.now.children l.sought.names.now l.sought.j) (l.sought.from + 1 + (l.sought.to - l.sought.from)) (l.i + 1)

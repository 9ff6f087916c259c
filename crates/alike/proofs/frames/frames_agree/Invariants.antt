-- At i the loop's result is that for the parents from i on.
use Prim.Native.Nat.{◌+◌, ◌-◌, ◌≤◌}
use Rattle.lists.specs.Positions.{up_from}
use Rattle.lists.specs.Tests.{every}
use Rattle.lists.proofs.Loops.{EveryFrom}
use Rattle.alike.specs.Agreeing.{parent_agrees}
use Rattle.alike.proofs.FrameNames.{Given}
use Rattle.alike.proofs.frames.frames_agree.Given as goal

abbrev pub invariant-loop-i : goal.invariant-loop-i
invariant-loop-i l = (l.from ≤ l.i) × Given l.setting.transitions.now l.setting.count l.setting.subtrees.now.count l.setting.subtrees.now.labels l.setting.subtrees.now.arities l.setting.subtrees.now.children l.setting.subtrees.now.states l.names l.a l.x
    (λ A N ts. EveryFrom (every (parent_agrees A N ts l.setting.subtrees.now.labels l.setting.subtrees.now.arities l.setting.subtrees.now.children l.a l.x) (up_from 0 l.setting.subtrees.now.count))
    (parent_agrees A N ts l.setting.subtrees.now.labels l.setting.subtrees.now.arities l.setting.subtrees.now.children l.a l.x) (l.from + (l.to - l.from)) l.i)

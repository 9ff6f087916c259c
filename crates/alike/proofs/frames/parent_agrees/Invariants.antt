-- At k the loop's result is that for the places from k on.
use mathlib.Core.Path.{◌≡◌}
use lib.ListN.{get_or}
use Rattle.lists.proofs.Loops.{EveryFrom}
use Rattle.alike.specs.Agreeing.{parent_agrees, place_agrees}
use Rattle.alike.proofs.FrameNames.{Given}
use Rattle.alike.proofs.frames.parent_agrees.Given as goal

abbrev pub invariant-loop-k : goal.invariant-loop-k
invariant-loop-k l = (l.arity ≡ get_or l.setting.subtrees.now.arities l.i 0) × Given l.setting.transitions.now l.setting.count l.setting.subtrees.now.count l.setting.subtrees.now.labels l.setting.subtrees.now.arities l.setting.subtrees.now.children l.setting.subtrees.now.states l.names l.a l.x
    (λ A N ts. EveryFrom (parent_agrees A N ts l.setting.subtrees.now.labels l.setting.subtrees.now.arities l.setting.subtrees.now.children l.a l.x l.i) (place_agrees A N ts l.setting.subtrees.now.labels l.setting.subtrees.now.arities l.setting.subtrees.now.children l.a l.x l.i) (get_or l.setting.subtrees.now.arities l.i 0) l.k)

use mathlib.Core.Path.{◌∙◌, sym}
use native.Mathlib.Nat.{zero-add}
use native.Mathlib.Omega.{arith}
use Rattle.lists.proofs.Loops.{any-end, any_found, any_next, any-start}
use Rattle.uses.proofs.frames.has_twin.Goals as goal

pub loop-h-init : goal.loop-h-init
loop-h-init c = any-start c.args.subtrees.now.count (zero-add c.args.subtrees.now.count)

pub returns-then-is_twin : goal.returns-then-is_twin
returns-then-is_twin c =
    any_found c.loop-h.invariant (omega arith) (sym c.is_twin.ensures ∙ c.if-is_twin.true)

pub loop-h-preserved : goal.loop-h-preserved
loop-h-preserved c =
    any_next c.loop-h.invariant (omega arith) (sym c.is_twin.ensures ∙ c.if-is_twin.false)

pub returns : goal.returns
returns c = any-end c.loop-h.invariant (omega arith)

-- The child that is left out is not compared.
use Rattle.uses.proofs.Comparing.{or-eq, or-ne}
use mathlib.Core.Path.{refl}
use Rattle.uses.proofs.frames.same_child.Goals as goal

pub returns-then-x-k : goal.returns-then-x-k
returns-then-x-k c = or-eq _ _ _ c.if-x-k.true

pub returns : goal.returns
returns c = or-ne _ _ _ c.if-x-k.false refl

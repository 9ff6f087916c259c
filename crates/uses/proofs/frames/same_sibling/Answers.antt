-- The child that is left out is not compared.
use Rattle.uses.proofs.Comparing.{or-eq, or-ne}
use mathlib.Core.Path.{◌∙◌, ap, ap₂}
use Prim.Native.Nat.{◌-◌, ℕ}
use lib.Dec.{eqb}
use lib.ListN.{get_or}
use Rattle.uses.proofs.frames.same_sibling.Goals as goal

pub returns-then-x-k : goal.returns-then-x-k
returns-then-x-k c = or-eq _ _ _ c.if-x-k.true

pub returns : goal.returns
returns c =
    or-ne _ _ _ c.if-x-k.false (ap₂ eqb (c.from.ensures ∙ ap (λ (x : ℕ). get_or c.args.states.now (x - 1) 0) c.from-child.ensures) c.arg_of.ensures.value)

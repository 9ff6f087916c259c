use mathlib.Core.Path.{◌∙◌, subst, sym}
use Prim.Native.Nat.{ℕ}
use native.Mathlib.Omega.{arith}
use Rattle.partition.specs.Splits.{key_of}
use Rattle.partition.proofs.Moving.{NoneBefore, none_end, none_found, none-next, none-start}
use Rattle.partition.proofs.grouping.first_same.Goals as goal

pub loop-p-init : goal.loop-p-init
loop-p-init c =
    subst (λ (p : ℕ). NoneBefore c.args.parts.now (key_of c.args.keys.now) c.args.q p)
    (sym c.from-p.ensures) (none-start c.requires.led_below)

pub returns-then-is_same : goal.returns-then-is_same
returns-then-is_same c =
    none_found c.loop-p.invariant (omega arith) (sym c.is_same.ensures ∙ c.if-is_same.true)

pub loop-p-preserved : goal.loop-p-preserved
loop-p-preserved c =
    none-next c.loop-p.invariant (sym c.is_same.ensures ∙ c.if-is_same.false)

pub returns : goal.returns
returns c = none_end c.loop-p.invariant (omega arith)

use native.Mathlib.Omega.{arith}
use Rattle.std.proofs.Common.{rules}
use mathlib.Core.Path.{refl}
use Rattle.numbering.proofs.Numbers.{numbered_next, numbered-start}
use Rattle.numbering.proofs.renumbering.number_names.Goals as goal

pub loop-k-init : goal.loop-k-init
loop-k-init c = numbered-start c.args.order.now c.requires.numbers_value

pub loop-k-preserved : goal.loop-k-preserved
loop-k-preserved c =
    numbered_next c.loop-k.invariant (search rules) (omega arith) refl
    (omega arith) c.if-q-eq0.false c.if-numbers-q-ne0.false

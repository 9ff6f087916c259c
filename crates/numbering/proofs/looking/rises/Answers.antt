use native.Mathlib.Omega.{arith}
use Prim.Native.Nat.{◌+◌, ◌-◌}
use mathlib.Core.Bool.{true}
use mathlib.Core.Path.{◌∙◌, ◌≡◌, sym}
use borrow.Author.Count.{below_more}
use Rattle.automata.specs.Order.{precedes}
use Rattle.packed.specs.Heads.{nth_packed}
use Rattle.numbering.proofs.Entries.{rising-each}
use Rattle.numbering.proofs.Places.{precedes-heads}
use Rattle.numbering.proofs.looking.rises.Goals as goal

pub loop-i-preserved : goal.loop-i-preserved
loop-i-preserved c j h =
    let i = c.loop-i.i in
    let t = c.args.transitions.now in
    let next : i - 1 + 1 ≡ i = omega arith in
    below_more (λ j. precedes (nth_packed t.heads.now t.args.now j) (nth_packed t.heads.now t.args.now (j + 1)) ≡ true)
    (i - 1) (λ j h. c.loop-i.invariant j (omega arith))
    (rw next (precedes-heads (t.holds.each (i - 1) (omega arith)) (t.holds.each i (omega arith))
    (c.type_inv.args (i - 1)).fits (c.type_inv.args i).fits ∙ sym c.is_before.ensures ∙ c.if-not-is_before.false))
    j (omega arith)

pub returns : goal.returns
returns c =
    let t = c.args.transitions.now in
    λ _. rising-each t.heads.now t.args.now t.count (λ j h. c.loop-i.invariant j (omega arith))

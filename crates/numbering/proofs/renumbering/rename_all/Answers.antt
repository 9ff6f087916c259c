-- `numbering::renumbering::rename_all` meets its contract: each place is one digit more.
use native.Mathlib.Omega.{arith}
use mathlib.Core.Bool.{◌&&◌}
use Rattle.format.specs.Format.{max_arity}
use Rattle.numbering.proofs.Numbers.{adds, in_a_row, renamed-next, renamed-start}
use Rattle.numbering.proofs.renumbering.rename_all.Goals as goal

pub returns : goal.returns
returns c =
    let start = renamed-start c.args.numbers.now c.args.args max_arity in
    let w1 = c.with_number-a in
    let r1 = renamed-next start (omega arith) w1.ensures.value w1.ensures.upper_bound in
    let w2 = c.with_number-b in
    let r2 = renamed-next r1 (omega arith) w2.ensures.value w2.ensures.upper_bound in
    let w3 = c.with_number-c in
    let r3 = renamed-next r2 (omega arith) w3.ensures.value w3.ensures.upper_bound in
    let w4 = c.with_number-d in
    let r4 = renamed-next r3 (omega arith) w4.ensures.value w4.ensures.upper_bound in
    let w5 = c.with_number-e in
    let r5 = renamed-next r4 (omega arith) w5.ensures.value w5.ensures.upper_bound in
    let w6 = c.with_number-f in
    let r6 = renamed-next r5 (omega arith) w6.ensures.value w6.ensures.upper_bound in
    let w7 = c.with_number-g in
    let r7 = renamed-next r6 (omega arith) w7.ensures.value w7.ensures.upper_bound in
    let w8 = c.with_number-h in
    let r8 = renamed-next r7 (omega arith) w8.ensures.value w8.ensures.upper_bound in
    let first =
    adds 0 w1.result && adds w1.result w2.result && adds w2.result w3.result
    && adds w3.result w4.result in
    let row = in_a_row first (adds w4.result w5.result) (adds w5.result w6.result)
    (adds w6.result w7.result) (adds w7.result w8.result) in
    record { has = r8.has (row c.if-not-first-last.false); packed = omega (arith, r8.packed) }

-- `fingerprints::values::scaled` meets its contract: the product fits 64 bits.
use Rattle.std.proofs.Common.{◌-◌, ◌*◌, ◌≤◌, mul-le-mul, arith}
use Rattle.fingerprints.proofs.values.scaled.Goals as goal

pub overflow_mul-result-2 : goal.overflow_mul-result-2
overflow_mul-result-2 c =
    let h : c.args.q ≤ 255 = omega (arith, c.requires.q_bound) in
    let l : 61169462280107569 - c.args.k * 1137794023457893 ≤ 61169462280107569 = omega arith in
    let p = mul-le-mul h l in
    omega arith

-- `fingerprints::values::value` meets its contract: the product of two halves fits 64 bits.
use Rattle.std.proofs.Common.{◌/◌, ◌%◌, ◌≤◌, refl, mul-le-mul, arith}
use Rattle.fingerprints.specs.Fingerprints.{mixed}
use Rattle.fingerprints.proofs.values.value.Goals as goal

pub overflow_mul-g : goal.overflow_mul-g
overflow_mul-g c =
    let h : c.args.y % 4294967296 ≤ 4294967295 = omega arith in
    let l : c.args.y / 4294967296 ≤ 4294967295 = omega arith in
    let p = mul-le-mul h l in
    omega arith

pub overflow_add-result : goal.overflow_add-result
overflow_add-result c =
    let h : c.args.y % 4294967296 ≤ 4294967295 = omega arith in
    let l : c.args.y / 4294967296 ≤ 4294967295 = omega arith in
    let p = mul-le-mul h l in
    omega arith

pub returns : goal.returns
unfolding mixed
returns c = refl

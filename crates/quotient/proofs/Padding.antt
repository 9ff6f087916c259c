-- Names packed to base 256, one more at a time.
use mathlib.Core.Path.{◌∙◌, ◌≡◌, ap, sym}
use Prim.Native.Nat.{◌*◌, ◌+◌, ◌<◌, ◌^◌, ◌≤◌, ℕ}
use native.Mathlib.Omega.{arith}
use lib.Pow.{pow_mono}
use Rattle.format.specs.Format.{byte_values, max_arity}
use Rattle.packed.proofs.Shifts.{digits-cut}
use Rattle.packed.proofs.Zeros as zeros
use Rattle.packed.specs.Packed.{digits}
use Rattle.quotient.specs.Making.{with_name}

pub digit-below : (k prefix x : ℕ) → prefix < 2 ^ (8 * k) → x < byte_values → with_name prefix x < 2 ^ (8 * (k + 1))
digit-below k prefix x h l = zeros.digit-below k prefix (with_name prefix x) h (omega arith)

pub digit-fits : (k prefix x : ℕ) → k < max_arity → prefix < 2 ^ (8 * k) → x < byte_values → with_name prefix x < 2 ^ 64
digit-fits k prefix x g h l =
    let b : 2 ^ (8 * (k + 1)) ≤ 2 ^ 64 = pow_mono {j = 64} (omega arith) in
    omega (arith, digit-below k prefix x h l, b)

pub digit-after : (f : ℕ → ℕ) (k : ℕ) → with_name (digits f 0 k 0) (f k) ≡ digits f 0 (k + 1) 0
digit-after f k =
    let d : 0 + k ≡ k = omega arith in
    sym (digits-cut f k 0 1 0 ∙ ap (λ (j : ℕ). digits f j 1 (digits f 0 k 0)) d)

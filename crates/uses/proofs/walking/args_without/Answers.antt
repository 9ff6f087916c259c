-- The argument's digit is taken away.
use mathlib.Core.Path.{◌∙◌, ap}
use Prim.Native.Nat.{◌*◌, ◌-◌, ◌^◌, ℕ}
use native.Mathlib.Omega.{arith}
use Rattle.uses.proofs.walking.args_without.Goals as goal

pub overflow_sub-result : goal.overflow_sub-result
overflow_sub-result c =
    let out = c.at_place.ensures ∙ ap (λ (v : ℕ). v * 2 ^ (8 * (7 - c.args.k))) c.from.ensures in
    omega (arith, out, c.args_at.ensures, c.requires.k_bound)

pub returns : goal.returns
returns c =
    let out = c.at_place.ensures ∙ ap (λ (v : ℕ). v * 2 ^ (8 * (7 - c.args.k))) c.from.ensures in
    omega (arith, out, c.args_at.ensures, c.requires.k_bound)

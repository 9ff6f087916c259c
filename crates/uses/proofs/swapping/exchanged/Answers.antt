-- The old argument's digit is taken away and the new one's is added.
use native.Mathlib.Omega.{arith}
use mathlib.Core.Path.{◌∙◌, ap}
use Prim.Native.Nat.{◌*◌, ◌-◌, ◌^◌, ℕ}
use Rattle.uses.proofs.swapping.exchanged.Goals as goal

pub overflow_sub-result : goal.overflow_sub-result
overflow_sub-result c =
    let out = c.at_place.ensures ∙ ap (λ (v : ℕ). v * 2 ^ (8 * (7 - c.args.k)))
    c.from.ensures in
    omega (arith, out, c.requires.k_bound)

pub overflow_add-result : goal.overflow_add-result
overflow_add-result c =
    let out = c.at_place.ensures ∙ ap (λ (v : ℕ). v * 2 ^ (8 * (7 -
    c.args.k))) c.from.ensures in
    let into = c.at_place-2.ensures ∙ ap (λ (v : ℕ). v * 2 ^ (8 * (7 -
    c.args.k))) c.from-2.ensures in
    omega (arith, out, into, c.requires.k_bound_2)

pub returns : goal.returns
returns c =
    let out = c.at_place.ensures ∙ ap (λ (v : ℕ). v * 2 ^ (8 * (7 -
    c.args.k))) c.from.ensures in
    let into = c.at_place-2.ensures ∙ ap (λ (v : ℕ). v * 2 ^ (8 * (7 -
    c.args.k))) c.from-2.ensures in
    omega (arith, out, into)

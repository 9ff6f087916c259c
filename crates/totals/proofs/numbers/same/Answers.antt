-- `totals::numbers::same` meets its contract: the slices compared are those of the states 1 to n.
use mathlib.Core.Path.{◌∙◌, ◌≡◌}
use Prim.Native.Nat.{◌+◌, ◌-◌}
use native.Mathlib.Omega.{arith}
use Rattle.totals.proofs.Tables.{same-part}
use Rattle.totals.proofs.numbers.same.Goals as goal

pub returns : goal.returns
returns c =
    let n : c.args.n + 1 - 1 ≡ c.args.n = omega arith in
    let a = c.args.a.now in
    let b = c.args.b.now in
    rw n at c.eq.ensures ∙ same-part a b 1 c.args.n (omega (arith, c.requires)) (omega (arith, c.requires))

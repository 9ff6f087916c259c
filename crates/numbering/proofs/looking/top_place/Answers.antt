use native.Mathlib.Omega.{arith}
use mathlib.Core.Path.{◌≡◌}
use Prim.Native.Nat.{ℕ}
use Rattle.std.proofs.Common.{max}
use Rattle.std.proofs.lemmas.Bool.Decides.{nat_tests}
use Rattle.std.specs.Ordering.{nat_cmp, ord_max}
use Rattle.validity.proofs.Arguments.{top-next}
use Rattle.numbering.proofs.looking.top_place.Goals as goal

-- the library's greater number is the logic's
greater : (a b : ℕ) → ord_max nat_cmp a b ≡ max a b
greater a b = grind (arith, nat_tests)

pub loop-k-preserved : goal.loop-k-preserved
loop-k-preserved c =
    rw (c.max-t.ensures, greater, c.place_of.ensures.value) (top-next c.loop-k.invariant (omega arith))

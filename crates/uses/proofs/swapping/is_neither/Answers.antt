-- `uses::swapping::is_neither` meets its contract.
use mathlib.Core.Bool.{◌&&◌, not}
use mathlib.Core.Path.{ap₂}
use Prim.Native.Nat.{ℕ}
use lib.Dec.{eqb}
use Rattle.uses.proofs.swapping.is_neither.Goals as goal

pub returns : goal.returns
returns c =
    let arg = c.args.arg in
    ap₂ (λ (a b : ℕ). not (eqb arg a) && not (eqb arg b)) c.from.ensures c.from-2.ensures

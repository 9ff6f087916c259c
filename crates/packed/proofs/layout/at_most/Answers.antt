use mathlib.Core.Path.{refl}
use Prim.Native.Nat.{◌-◌}
use native.Mathlib.Omega.{arith}
use borrow.Author.Tests.{le-leb}
use Rattle.lists.proofs.Loops.{clean_end, clean-next, clean-start}
use Rattle.lists.proofs.Tests.{leb-max}
use Rattle.packed.proofs.layout.at_most.Goals as goal

pub loop-j-init : goal.loop-j-init
loop-j-init c =
    (omega arith, rw (le-leb 0 c.args.bound (omega arith)) (clean-start (c.args.end - c.args.from) refl))

pub loop-j-preserved : goal.loop-j-preserved
loop-j-preserved c =
    let bound = c.args.bound in (
      omega arith,
      rw (c.max-top.ensures, leb-max c.loop-j.top _ bound)
          (clean-next c.loop-j.invariant.1 (omega arith) refl),
    )

pub returns : goal.returns
returns c = clean_end c.loop-j.invariant.1 (omega arith)

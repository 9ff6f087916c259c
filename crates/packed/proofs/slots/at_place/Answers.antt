-- `packed::slots::at_place` meets its contract: a byte shifted to its place loses nothing.
use Prim.Native.Nat.{◌*◌, ◌-◌}
use native.Mathlib.Omega.{arith}
use lib.Pow.{shl_exact}
use Rattle.packed.proofs.slots.at_place.Goals as goal

pub returns : goal.returns
returns c =
    shl_exact 8 (8 * (7 - c.args.k)) 64 c.requires.q_lt_byte_values (omega arith)

-- `packed::searching::pack` meets its contract: each byte is one digit more.
use native.Mathlib.Omega.{arith}
use Rattle.packed.specs.Packed.{packed}
use Rattle.packed.proofs.searching.pack.Goals as goal

pub returns-clause-value : goal.returns-clause-value
unfolding packed
returns-clause-value c = omega (arith, c.from_be_bytes.ensures)

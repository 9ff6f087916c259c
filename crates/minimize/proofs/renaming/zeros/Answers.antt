-- `minimize::renaming::zeros` meets its contract.
use mathlib.Core.Path.{refl}
use Rattle.minimize.specs.Renaming.{zeros}
use Rattle.minimize.proofs.renaming.zeros.Goals as goal

pub returns : goal.returns
unfolding zeros
returns g c = refl

-- `console::empty_scratch` gives a scratch of zeros.
use mathlib.Core.Path.{refl}
use Rattle.console.specs.Buffers.{empty_scratch}
use Rattle.console.proofs.empty_scratch.Goals as goal

pub returns : goal.returns
unfolding empty_scratch
returns c = refl

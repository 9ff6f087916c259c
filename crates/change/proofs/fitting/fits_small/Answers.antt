-- `change::fitting::fits_small` meets its contract: it returns true only if `fits` does.
use mathlib.Core.Path.{◌∙◌, sym}
use mathlib.Core.Path.{◌≡◌}
use native.Mathlib.Omega.{arith}
use Prim.Native.Nat.{ℕ}
use Rattle.change.proofs.fitting.fits_small.Goals as goal

pub returns-then-count-gt-SMALL : goal.returns-then-count-gt-SMALL
returns-then-count-gt-SMALL c = λ e. let z : ◌≡◌ {A = ℕ} 0 1 = cc in absurd (omega arith)

pub returns : goal.returns
returns c = λ e inserting t firsts nexts N K. sym (c.fits.ensures inserting t firsts nexts N K) ∙ e

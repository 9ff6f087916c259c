-- The samples of order 2 hold of the definitions, by computation.
use mathlib.Core.Bool.{true}
use mathlib.Core.Path.{◌≡◌, refl}
use Rattle.automata.specs.TotalSamples.{total_holds, total_samples}
use Rattle.automata.specs.Totals.{total, trees_of, trees_within}
use Rattle.lists.specs.Tests.{every}

pub totals-hold : every total_holds total_samples ≡ true
unfolding total trees_of trees_within
totals-hold = refl

-- The samples of order 7 hold of the definitions, by computation.
use mathlib.Core.Bool.{true}
use mathlib.Core.Path.{◌≡◌, refl}
use Rattle.boxes.specs.Boxes.{arranged, is_box, listing_not_after}
use Rattle.boxes.specs.Samples.{box_holds, box_samples}
use Rattle.lists.specs.Tests.{every}

pub boxes-hold : every box_holds box_samples ≡ true
unfolding is_box listing_not_after arranged
boxes-hold = refl

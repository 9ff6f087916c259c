-- Which arrays a change works in.
use Rattle.std.specs.Prelude.{Bool, None, Option, Some, false, true}
use Rattle.change.specs.declared.fitting.Size.{Size}
use Rattle.change.specs.declared.fitting.Size.TheVariants.{Large, Small}

-- small arrays are long enough
abbrev pub is_small : Option Size → Bool
is_small (Some Small) = true
is_small (Some Large) = false
is_small None = false

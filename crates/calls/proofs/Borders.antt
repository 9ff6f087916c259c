-- The rows of specs/Borders hold of the definitions, by computation.
use mathlib.Core.Bool.{true}
use mathlib.Core.Path.{◌≡◌, refl}
use Rattle.calls.specs.Borders.{borders_hold}
use Rattle.calls.specs.Calls.{fits_listing, totalled}
use Rattle.lists.specs.Decimal.{decimal, digits}

pub borders-hold : borders_hold ≡ true
unfolding fits_listing totalled decimal digits
borders-hold = refl

-- `packed::args_at` meets its contract: the bytes of the places are packed.
use mathlib.Core.Path.{◌∙◌, ap}
use Rattle.packed.specs.Packed.{packed}
use Rattle.packed.proofs.Order.{packed-places}
use Rattle.packed.proofs.args_at.Goals as goal

pub returns : goal.returns
returns c =
    c.pack.ensures.value ∙ ap packed c.copy_from_slice.ensures.after ∙
    packed-places c.args.transitions.now c.args.at

-- `packed::layout::zeros_from` meets its contract: a byte that is at most 0 is 0.
use mathlib.Core.Path.{◌∙◌}
use Prim.Native.Nat.{◌-◌}
use lib.ListN.{length}
use Rattle.lists.specs.Positions.{up_from}
use Rattle.packed.proofs.Bounds.{zeros-at-most}
use Rattle.packed.proofs.layout.zeros_from.Goals as goal

pub returns : goal.returns
returns c =
    c.at_most.ensures ∙ zeros-at-most c.args.transitions.now
    (up_from c.args.start (length c.args.transitions.now - c.args.start))

-- A byte is converted before it is an index.
use mathlib.Core.Path.{◌∙◌, ap}
use Prim.Native.Nat.{ℕ}
use lib.ListN.{get_or}
use Rattle.uses.proofs.spans.entry.Goals as goal

pub returns : goal.returns
returns c =
    c.from-2.ensures ∙ ap (λ (x : ℕ). get_or c.args.numbers.now x 0)
    c.from.ensures

-- `totals::numbers::add` meets its contract: one state gets more.
use mathlib.Core.Path.{◌∙◌, ap}
use Prim.Native.Nat.{◌+◌}
use Rattle.totals.specs.Limited.{total_of, worth}
use Rattle.totals.proofs.Tables.{number-at, put-sum}
use Rattle.totals.proofs.numbers.add.Goals as goal

pub returns : goal.returns
returns c =
    put-sum (worth c.args.more) c.args.numbers.now c.args.q c.told-numbers c.requires
    (c.plus.ensures ∙ ap (λ n. total_of (n + worth c.args.more)) (number-at c.args.numbers.now c.args.q))

-- `validity::usefulness::use_all` meets its contract: step j marks the arguments of transition j from the last.
use Rattle.std.proofs.Common.{rules}
use Rattle.validity.specs.Rules.{nth_down}
use Rattle.marking.specs.Spread.{from_last}
use Rattle.marking.proofs.Spreading.{spread-back}
use Rattle.marking.proofs.Stepping.{steps-spread}
use Rattle.validity.proofs.usefulness.use_all.Goals as goal

pub returns : goal.returns
returns c =
    spread-back (nth_down c.args.transitions.now) c.args.count
    (steps-spread (from_last (nth_down c.args.transitions.now) c.args.count) c.args.count (λ j p q r h e. search rules)
    c.sweep.ensures)

-- `validity::reaching::mark_outputs` meets its contract: step i marks the output of transition i.
use Rattle.std.proofs.Common.{rules}
use Rattle.pairs.specs.Counts.{nth_some_up}
use Rattle.marking.proofs.Stepping.{steps-spread}
use Rattle.pairs.proofs.opening.mark_outputs.Goals as goal

pub returns : goal.returns
returns c = steps-spread (nth_some_up c.args.transitions.now) c.args.count (λ i p q r h e. search rules) c.sweep.ensures

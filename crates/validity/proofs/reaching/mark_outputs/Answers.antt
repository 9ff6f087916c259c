-- `validity::reaching::mark_outputs` meets its contract: step i marks the output of transition i.
use Rattle.std.proofs.Common.{rules}
use Rattle.validity.specs.Rules.{nth_up}
use Rattle.marking.proofs.Stepping.{steps-spread}
use Rattle.validity.proofs.reaching.mark_outputs.Goals as goal

pub returns : goal.returns
returns c = steps-spread (nth_up c.args.transitions.now) c.args.count (λ i p q r h e. search rules) c.sweep.ensures

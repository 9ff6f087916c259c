-- `validity::grounding::ground_unblocked` meets its contract: step k marks state k + 1.
use Rattle.std.proofs.Common.{rules}
use Rattle.validity.specs.Rules.{Unblocked}
use Rattle.marking.proofs.Stepping.{steps-spread}
use Rattle.validity.proofs.grounding.ground_unblocked.Goals as goal

pub returns : goal.returns
returns c = steps-spread (Unblocked c.args.blocked.now) c.args.n (λ k p q r h e. search rules) c.sweep.ensures

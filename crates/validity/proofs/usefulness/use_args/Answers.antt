-- `validity::usefulness::use_args` meets its contract: step k marks argument k. The output has its mark, so that
-- what is closed has the arguments.
use Rattle.std.proofs.Common.{rules}
use Rattle.table.specs.Layout.{arg_of, arity_of, out_of}
use Rattle.marking.specs.Spread.{Has}
use Rattle.marking.proofs.Spreading.{spread-if}
use Rattle.marking.proofs.Stepping.{steps-spread}
use Rattle.validity.proofs.usefulness.use_args.Goals as goal

pub returns : goal.returns
returns c =
    spread-if (λ p w d k h. d k h (w (out_of c.args.transitions.now c.args.at) c.requires.at_value)) (λ u k h o. u k h)
    (steps-spread (λ k. Has (arg_of c.args.transitions.now c.args.at k)) (arity_of c.args.transitions.now c.args.at)
    (λ k p q r h e. search rules) (rw c.arity_of.ensures at c.sweep.ensures))

use native.Mathlib.Omega.{arith}
use Rattle.fields.specs.View.{viewed}
use Rattle.fields.proofs.Views.{viewed-states}
use borrow.Author.Rules.{rules}
use Rattle.totals.proofs.Depths.{reached-end, reached-next, reached-start}
use Rattle.totals.proofs.rounds.rounds.Goals as goal

pub loop-depth-init : goal.loop-depth-init
loop-depth-init c = λ cl.
    reached-start (viewed cl c.args.transitions.now c.args.n c.args.count)
    (omega (arith, viewed-states cl c.args.transitions.now c.args.n c.args.count, c.requires.n_lt_byte_values)) (search rules)

pub loop-depth-preserved : goal.loop-depth-preserved
loop-depth-preserved c = λ cl.
    reached-next cl c.args.transitions.now c.args.n c.args.count c.requires.holds_transitions_over
    c.requires.n_lt_byte_values (c.loop-depth.invariant cl) c.round.ensures

pub returns : goal.returns
returns c = λ cl.
    reached-end cl c.args.transitions.now c.args.n c.args.count c.requires.holds_transitions_over
    c.requires.n_lt_byte_values (c.loop-depth.invariant cl) (omega arith)

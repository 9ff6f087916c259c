-- `quotient::kept::keep_name` meets its contract: the name joins the chain of its state, or is passed over.
use native.Mathlib.Omega.{arith}
use mathlib.Core.Path.{◌∙◌, sym}
use Rattle.quotient.proofs.Chains.{kept-few, kept_put, kept-skip}
use Rattle.quotient.proofs.kept.keep_name.Goals as goal

pub put_first-requires-clause-q_bound : goal.put_first-requires-clause-q_bound
put_first-requires-clause-q_bound c =
    let g = c.args.candidates.now in
    omega (
      arith,
      c.requires.kept_above.count c.state_of.result c.state_of.ensures.upper_bound,
      kept-few g.n g.m g.opens.now g.states.now g.names.now c.state_of.result c.args.x,
      g.few_states,
      g.few_nodes,
    )

pub returns-then-is_kept : goal.returns-then-is_kept
returns-then-is_kept c =
    let g = c.args.candidates.now in
    kept_put g.n g.m g.opens.now g.states.now g.names.now c.requires.le_x c.requires.x_bound
    (omega (arith, c.requires.x_bound, g.few_states, g.few_nodes)) c.state_of.ensures.upper_bound
    (sym c.is_kept.ensures ∙ c.if-is_kept.true) c.state_of.ensures.value c.put_first.ensures c.requires.kept_above

pub returns-else-is_kept : goal.returns-else-is_kept
returns-else-is_kept c =
    let g = c.args.candidates.now in
    kept-skip g.n g.m g.opens.now g.states.now g.names.now c.requires.le_x c.requires.x_bound
    (sym c.is_kept.ensures ∙ c.if-is_kept.false) c.requires.kept_above

-- No transition, or the state that a transition gives.
use lib.ListN.{take}
use Rattle.running.proofs.Nodes.{node-found, node-lost}
use Rattle.running.proofs.run_node.Goals as goal

pub returns-in_default : goal.returns-in_default
returns-in_default c =
    let found = c.find.ensures.result_value in
    node-lost c.args.transitions.now c.args.count c.args.label (take c.args.arity c.args.row) c.requires.row_value found
    c.in_default.is

pub returns : goal.returns
returns c =
    node-found c.args.transitions.now c.args.count c.args.label (take c.args.arity c.args.row) c.requires.row_value c.requires.steps
    c.in-Some.q c.find.ensures.result_value c.find.ensures.result_value_2 c.in-Some.is

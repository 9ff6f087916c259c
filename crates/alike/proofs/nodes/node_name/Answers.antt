-- `alike::nodes::node_name` meets its contract: the node is a subtree above j, or else its name is its state.
use native.Mathlib.Omega.{arith}
use mathlib.Core.Path.{◌≡◌}
use lib.ListN.{length}
use Rattle.format.specs.Format.{max_arity}
use Rattle.alike.proofs.NodeNames.{children-more, filled-places, name-found, name-missing, states-run, widened-children, widened-step}
use Rattle.alike.proofs.nodes.node_name.Goals as goal

pub returns-in-Some : goal.returns-in-Some
returns-in-Some c =
    let eight : length c.args.numbers ≡ max_arity = omega (arith, c.well_formed) in
    λ A t ts N j k e holds known h l. name-found holds known eight c.requires.children c.in-Some.i k h l c.in-Some.ensures.within c.in-Some.ensures.there

pub states_of-qs-requires : goal.states_of-qs-requires
states_of-qs-requires c =
    widened-children c.from-width.ensures (children-more c.args.setting.now.shaped.few c.requires.children)

pub step_node-requires : goal.step_node-requires
step_node-requires c = record {
  places = filled-places c.states_of-qs.ensures (omega (arith, c.from-width.ensures, c.requires.children.narrow));
}

pub returns : goal.returns
returns c =
    let eight : length c.args.numbers ≡ max_arity = omega (arith, c.well_formed) in
    λ A t ts N j k e holds known h l.
    name-missing holds known eight c.requires.children c.in_default.ensures
    (widened-step A ts c.args.label c.args.numbers c.states_of-qs.result c.from-width.ensures (c.step_node.ensures A e)
    (states-run holds.stored eight (widened-children c.from-width.ensures c.requires.children) c.states_of-qs.ensures))

-- `alike::frames::frame_step` meets its contract: x stands at place k among the states of the other children.
use native.Mathlib.Omega.{arith}
use Rattle.alike.proofs.FrameNames.{frame-children, frame-stepped}
use Rattle.alike.proofs.NodeNames.{children-more, put-places}
use Rattle.alike.proofs.frames.frame_step.Goals as goal

pub children_of-numbers-requires : goal.children_of-numbers-requires
children_of-numbers-requires c = record {
  i_lt_max_nodes = omega (arith, c.args.setting.now.shaped.few);
  arity_le_max_arity = omega (arith, c.from-arity.ensures, c.args.setting.now.shaped.narrow c.args.i (omega arith));
}

pub states_of-qs-requires : goal.states_of-qs-requires
states_of-qs-requires c =
    children-more c.args.setting.now.shaped.few (frame-children c.args.setting.now.subtrees.now.arities c.args.setting.now.subtrees.now.children c.args.i c.from-arity.ensures c.children_of-numbers.ensures c.args.setting.now.shaped c.requires.i_lt_m)

pub bounds-qs-k : goal.bounds-qs-k
bounds-qs-k c =
    omega (arith, c.states_of-qs.ensures.size, c.args.setting.now.shaped.narrow c.args.i (omega arith))

pub step_node-requires : goal.step_node-requires
step_node-requires c = record {
  places = put-places c.states_of-qs.ensures (omega (arith, c.from-arity.ensures, c.args.setting.now.shaped.narrow c.args.i (omega arith))) c.args.k c.args.x (omega (arith, c.from-arity.ensures));
}

pub returns : goal.returns
returns c =
    λ A t ts e holds. frame-stepped c.args.setting.now.subtrees.now.arities c.args.setting.now.subtrees.now.children c.args.i c.from-arity.ensures c.children_of-numbers.ensures c.args.setting.now.shaped holds c.args.k c.args.x c.requires.i_lt_m c.requires.k_bound
    c.states_of-qs.ensures (c.step_node.ensures A e)

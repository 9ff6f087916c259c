-- `alike::frames::frame_node` meets its contract: x stands at place k among the other children.
use lib.ListN.{get_or, set, take}
use Rattle.subtrees.specs.Store.{trees_numbered}
use Rattle.trees.specs.Tree.{node}
use native.Mathlib.Omega.{arith}
use mathlib.Core.Path.{◌∙◌, ap, sym}
use Rattle.alike.proofs.FrameNames.{frame-children, frame-filled, put-here}
use Rattle.alike.proofs.NodeNames.{put-children, widened-children}
use Rattle.alike.proofs.frames.frame_node.Goals as goal

pub children_of-numbers-requires : goal.children_of-numbers-requires
children_of-numbers-requires c = record {
  i_lt_max_nodes = omega (arith, c.args.setting.now.shaped.few);
  arity_le_max_arity = omega (arith, c.from.ensures, c.args.setting.now.shaped.narrow c.args.i (omega arith));
}

pub bounds-numbers-k : goal.bounds-numbers-k
bounds-numbers-k c =
    omega (arith, c.children_of-numbers.ensures.size, c.args.setting.now.shaped.narrow c.args.i (omega arith))

pub node_name-requires : goal.node_name-requires
node_name-requires c = record {
  children = widened-children (sym c.from.ensures) (put-children (frame-children c.args.setting.now.subtrees.now.arities c.args.setting.now.subtrees.now.children c.args.i c.from.ensures c.children_of-numbers.ensures c.args.setting.now.shaped c.requires.i_lt_m) c.children_of-numbers.ensures.size c.args.k c.args.x (omega (arith, c.from.ensures)) c.requires.le_x c.requires.x_le_m);
}

pub returns : goal.returns
returns c =
    let narrow = c.args.setting.now.shaped.narrow c.args.i c.requires.i_lt_m in
    λ A t ts N j e holds known above.
    c.node_name.ensures A t ts N j c.args.k e holds known c.requires.k_bound (omega (arith, put-here c.args.setting.now.subtrees.now.arities c.args.setting.now.subtrees.now.children c.args.i c.from.ensures c.children_of-numbers.ensures c.args.k c.args.x (omega arith) (omega arith)))
    ∙ ap N (ap (λ z. node (get_or c.args.setting.now.subtrees.now.labels c.args.i 0) (trees_numbered ts (take z (set c.children_of-numbers.result c.args.k c.args.x)))) (sym c.from.ensures)
    ∙ frame-filled c.args.setting.now.subtrees.now.arities c.args.setting.now.subtrees.now.children c.args.i c.from.ensures c.children_of-numbers.ensures c.args.setting.now.shaped holds c.args.k c.args.x c.requires.i_lt_m c.requires.k_bound)

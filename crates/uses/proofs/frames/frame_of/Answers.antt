-- Child k is j, or neither j nor v, or v. If it is v, twins decide.
use native.Mathlib.Omega.{arith}
use Rattle.uses.proofs.Nodes.{of-first, of_none, of-second}
use Rattle.uses.proofs.frames.frame_of.Goals as goal

pub returns-then-child-frames : goal.returns-then-child-frames
returns-then-child-frames c =
    of-first c.args.subtrees.now.labels c.args.subtrees.now.arities c.args.subtrees.now.children c.args.subtrees.now.count c.args.frames.first c.args.frames.second c.args.k c.args.i c.if-child-frames.true

pub returns-then-child-frames-2 : goal.returns-then-child-frames-2
returns-then-child-frames-2 c =
    of_none c.args.subtrees.now.labels c.args.subtrees.now.arities c.args.subtrees.now.children c.args.subtrees.now.count c.args.frames.first c.args.frames.second c.args.k c.args.i c.if-child-frames.false c.if-child-frames-2.true

pub has_twin-requires : goal.has_twin-requires
has_twin-requires c = record {
  m_le_max_nodes = c.requires.nodes.few;
  k_lt_max_arity = c.requires.k_lt_max_arity;
  i_lt_max_nodes = omega (arith, c.requires.nodes.few, c.requires.i_lt_m);
  i_bound = c.requires.nodes.narrow c.args.i c.requires.i_lt_m;
}

pub returns : goal.returns
returns c =
    of-second c.args.subtrees.now.labels c.args.subtrees.now.arities c.args.subtrees.now.children c.args.subtrees.now.count c.args.frames.first c.args.frames.second c.args.k c.args.i c.if-child-frames.false c.if-child-frames-2.false c.has_twin.ensures

-- A node counts if it has a frame there and the frame runs to the slot.
use Rattle.uses.proofs.Nodes.{framed-both, framed-not, framed-out}
use Rattle.uses.proofs.frames.framed_at.Goals as goal

pub returns-then-not-frame_of : goal.returns-then-not-frame_of
returns-then-not-frame_of c =
    framed-not c.args.transitions.now c.args.at c.args.k c.args.subtrees.now.labels c.args.subtrees.now.arities c.args.subtrees.now.children c.args.subtrees.now.states c.args.subtrees.now.count c.args.frames.first c.args.frames.second c.args.i c.frame_of.ensures c.if-not-frame_of.true

pub returns-then-not-in_slot : goal.returns-then-not-in_slot
returns-then-not-in_slot c =
    framed-out c.args.transitions.now c.args.at c.args.k c.args.subtrees.now.labels c.args.subtrees.now.arities c.args.subtrees.now.children c.args.subtrees.now.states c.args.subtrees.now.count c.args.frames.first c.args.frames.second c.args.i c.in_slot.ensures c.if-not-in_slot.true

pub returns : goal.returns
returns c =
    framed-both c.args.transitions.now c.args.at c.args.k c.args.subtrees.now.labels c.args.subtrees.now.arities c.args.subtrees.now.children c.args.subtrees.now.states c.args.subtrees.now.count c.args.frames.first c.args.frames.second c.args.i c.frame_of.ensures c.if-not-frame_of.false c.in_slot.ensures c.if-not-in_slot.false

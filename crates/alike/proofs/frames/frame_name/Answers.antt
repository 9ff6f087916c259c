-- `alike::frames::frame_name` meets its contract, for a state and for a subtree.
use Rattle.alike.proofs.frames.frame_name.Goals as goal

pub returns-in-State : goal.returns-in-State
returns-in-State c = rw c.in-State.is (λ A t ts N j e holds known above. c.frame_step.ensures A t ts e holds)

pub frame_node-requires : goal.frame_node-requires
frame_node-requires c = record {
  i_lt_m = c.requires.i_lt_m;
  k_bound = c.requires.k_bound;
  le_x = (rw c.in-Subtree.is at c.requires.numbered).0;
  x_le_m = (rw c.in-Subtree.is at c.requires.numbered).1;
}

pub returns-in-Subtree : goal.returns-in-Subtree
returns-in-Subtree c = rw c.in-Subtree.is (λ A t ts N j e holds known above. c.frame_node.ensures A t ts N j e holds known above)

-- `validity::grounding::ground_all` meets its contract: a state that is not blocked has only arguments with marks.
use Rattle.validity.proofs.Blocking.{blocks-none, spread-ground}
use Rattle.validity.proofs.grounding.ground_all.Goals as goal

pub block_all-requires : goal.block_all-requires
block_all-requires c = record {
  holds_transitions = c.requires.holds_transitions;
  blocks = blocks-none c.args.transitions.now c.args.marks.now;
}

pub returns : goal.returns
returns c =
    spread-ground c.args.transitions.now c.args.count c.args.n
    c.block_all.ensures c.ground_unblocked.ensures

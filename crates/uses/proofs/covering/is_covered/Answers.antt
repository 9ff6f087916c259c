-- The count of frames is below the cap, so comparing with the capped product is exact.
use Rattle.uses.specs.Uses.{arrays}
use Rattle.uses.proofs.Scanned.{covered-is}
use Rattle.uses.proofs.covering.is_covered.Goals as goal

pub returns : goal.returns
returns c =
    covered-is (arrays c.args.subtrees.now.labels c.args.subtrees.now.arities c.args.subtrees.now.children c.args.subtrees.now.states c.args.weights.now c.args.subtrees.now.count c.args.frames.first c.args.frames.second) c.args.transitions.now c.args.at c.args.k c.choices.ensures c.frame_count-found.ensures.value c.frame_count-found.ensures.upper_bound

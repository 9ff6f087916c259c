-- `validity::grounding::ranks_show` meets its contract: ranks that rise show that there is no loop.
use Rattle.std.proofs.Common.{sym}
use Rattle.validity.proofs.Rising.{ranks-acyclic}
use Rattle.validity.proofs.grounding.ranks_show.Goals as goal

pub returns : goal.returns
returns c =
    λ h cl. sym (ranks-acyclic c.args.transitions.now c.args.n c.args.count
    c.depth_first.result c.requires.holds_transitions_over c.ranks_rise.ensures h cl)

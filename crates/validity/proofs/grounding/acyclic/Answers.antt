-- `validity::grounding::acyclic` meets its contract: ranks show it, else the marks decide.
use Rattle.std.proofs.Common.{sym}
use Rattle.validity.proofs.grounding.acyclic.Goals as goal

pub returns-then-ranks_show : goal.returns-then-ranks_show
returns-then-ranks_show c = λ cl. sym (c.ranks_show.ensures c.if-ranks_show.true cl)

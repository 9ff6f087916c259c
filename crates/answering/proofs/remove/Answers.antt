-- `answering::remove` meets its contract: it is the change that deletes.
use Rattle.calls.specs.Calls.{remove_result}
use Rattle.answering.proofs.remove.Goals as goal

pub returns : goal.returns
unfolding remove_result
returns c = c.change.ensures

-- `scalebench_remove` meets its contract: it is the change that deletes.
use Rattle.calls.specs.Calls.{remove_result}
use Rattle.scalebench.proofs.scalebench_remove.Goals as goal

pub returns : goal.returns
unfolding remove_result
returns c = c.change_number.ensures

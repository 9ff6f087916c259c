-- `scalebench_add` meets its contract: it is the change that inserts.
use Rattle.calls.specs.Calls.{add_result}
use Rattle.scalebench.proofs.scalebench_add.Goals as goal

pub returns : goal.returns
unfolding add_result
returns c = c.change_number.ensures

-- `serving::serve` meets its contract: a line is handled, and its outcome printed.
use Rattle.serving.proofs.Handled.{printed-served}
use Rattle.serving.proofs.serve.Goals as goal

pub returns : goal.returns
returns c =
    printed-served _ _ _ _ c.handle-outcome.result _ _ _ _ c.handle-outcome.ensures c.line.ensures

-- `change::classes::state_of` meets its contract: a state of the table, or that of a subtree.
use native.Mathlib.Omega.{arith}
use mathlib.Core.Path.{refl}
use Rattle.change.proofs.Classing.{state-low, state-high}
use Rattle.change.proofs.classes.state_of.Goals as goal

pub returns-then-p-n : goal.returns-then-p-n
returns-then-p-n c = state-low c.args.n c.args.states.now c.args.p (omega arith)

pub returns : goal.returns
returns c =
    state-high c.args.n c.args.states.now c.args.p (omega arith) refl

-- `running::stops::walked` meets its contract: a node without a state is kept, and any other passed.
use mathlib.Core.Path.{refl}
use borrow.Author.Tests.{eq-eqb, ne_eqb}
use Rattle.running.proofs.stops.walked.Goals as goal

pub returns-then-state-eq0 : goal.returns-then-state-eq0
returns-then-state-eq0 c = rw (eq-eqb c.args.state 0 c.if-state-eq0.true) refl

pub returns : goal.returns
returns c = rw (ne_eqb c.args.state 0 c.if-state-eq0.false) refl

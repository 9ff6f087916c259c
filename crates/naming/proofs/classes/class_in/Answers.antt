-- `naming::classes::class_in` meets its contract: 0 has class 0, a state its class in the table.
use borrow.Author.Tests.{eq-eqb, ne_eqb}
use Rattle.naming.proofs.classes.class_in.Goals as goal

pub returns-then-q-eq0 : goal.returns-then-q-eq0
returns-then-q-eq0 c = rw (eq-eqb c.args.q 0 c.if-q-eq0.true)

pub returns : goal.returns
returns c = rw (ne_eqb c.args.q 0 c.if-q-eq0.false)

-- `naming::states::is_free` meets its contract: 0 is free, a state if it is marked.
use lib.ListN.{get_or}
use borrow.Author.Tests.{eq-eqb, ne_eqb}
use Rattle.naming.proofs.Choosing.{not-zero}
use Rattle.naming.proofs.states.is_free.Goals as goal

pub returns-then-q-eq0 : goal.returns-then-q-eq0
returns-then-q-eq0 c = rw (eq-eqb c.args.q 0 c.if-q-eq0.true)

pub returns : goal.returns
returns c =
    rw (ne_eqb c.args.q 0 c.if-q-eq0.false) (not-zero (get_or c.args.marks.now c.args.q
    0))

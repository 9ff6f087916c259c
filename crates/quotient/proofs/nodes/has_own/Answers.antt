-- `quotient::nodes::has_own` meets its contract: the name is compared with the number after the states.
use Rattle.quotient.proofs.nodes.has_own.Goals as goal

pub returns : goal.returns
returns c = rw (c.from.ensures, c.from-number.ensures)

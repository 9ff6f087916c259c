-- `packed::layout::classes_fit` meets its contract: the classes of the states, then the bytes beyond them.
use Rattle.packed.proofs.Bounds.{class-broken, classes-decide}
use Rattle.packed.proofs.layout.classes_fit.Goals as goal

pub returns-then-not-at_most : goal.returns-then-not-at_most
returns-then-not-at_most c =
    class-broken c.args.table.now ((rw c.requires.states_value at c.requires.states_le_max_states))
    (rw c.requires.states_value at c.at_most.ensures) c.if-not-at_most.true

pub returns : goal.returns
returns c =
    classes-decide c.args.table.now ((rw c.requires.states_value at c.requires.states_le_max_states))
    (rw c.requires.states_value at c.at_most.ensures) c.if-not-at_most.false
    (rw c.requires.states_value at c.at_most-2.ensures)

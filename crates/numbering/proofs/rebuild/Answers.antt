-- `numbering::rebuild` meets its contract: a table is written only if the order is right, and it is then that of the
-- automaton.
use Rattle.std.proofs.Common.{rules}
use Rattle.numbering.proofs.Rebuilt.{rebuilt}
use Rattle.numbering.proofs.rebuild.Goals as goal

pub returns-clause-table_after : goal.returns-clause-table_after
returns-clause-table_after c =
    rebuilt c.args.classes.now (search rules) c.in-Some.ensures.upper_bound
    (c.settle.ensures c.if-not-settle.false) c.write_table.ensures (λ i.
    (c.type_inv.table i).fits)

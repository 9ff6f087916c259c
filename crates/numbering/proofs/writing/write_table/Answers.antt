-- `numbering::writing::write_table` meets its contract: states, classes, count, transitions and zeros, in turn.
use mathlib.Core.Path.{refl}
use Prim.Native.Nat.{◌%◌, ◌/◌}
use Rattle.numbering.proofs.Tables.{table-put}
use Rattle.numbering.proofs.writing.write_table.Goals as goal

pub returns : goal.returns
returns c =
    table-put c.args.table.now c.write_classes.new.table c.args.states
    c.args.transitions.now.count c.args.old (c.args.transitions.now.count / 256) (c.args.transitions.now.count % 256) c.requires.table_len
    c.write_classes.ensures c.write_run.ensures c.clear_between.ensures c.requires.blank_after refl refl

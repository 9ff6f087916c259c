-- `change::rebuilding::replace` meets its contract: the last resort starts from the unchanged table.
use Rattle.change.proofs.Rebuilt.{fitting-same, some_same}
use Rattle.change.proofs.rebuilding.replace.Goals as goal

pub rebuild_table-requires : goal.rebuild_table-requires
rebuild_table-requires c = record {
  some_fitting = c.requires.some_fitting;
  some_fitting_2 = c.requires.some_fitting_2;
}

pub returns-then-rebuild_table : goal.returns-then-rebuild_table
returns-then-rebuild_table c = rw c.if-rebuild_table.true at c.rebuild_table.ensures.table_after

pub renumber_table-requires : goal.renumber_table-requires
renumber_table-requires c = record {
  some_fitting = some_same (c.rebuild_table.ensures.table_unchanged c.if-rebuild_table.false) c.requires.some_fitting;
  scratch_len = c.requires.scratch_len;
}

pub returns : goal.returns
returns c =
    let same = c.rebuild_table.ensures.table_unchanged c.if-rebuild_table.false in
    λ inserting t o F. rw same at (c.renumber_table.ensures inserting t o (fitting-same same F))

-- `bench::run` is safe: the console that reading left is closed, and what is printed is written.
use Rattle.std.proofs.Common.{refl, sym}
use Rattle.bench.proofs.Meeting.{met-ended}
use Rattle.bench.proofs.run.Goals as goal

pub read_all-requires : goal.read_all-requires
read_all-requires c = record {
  chunk_len = sym c.large_buffer-chunk.ensures;
  line_len = refl;
  table_value = c.empty_table-table.ensures;
  scratch_value = c.empty_scratch-scratch.ensures;
  out_len = sym c.large_buffer-out.ensures;
}

pub slice_bounds-finish-end : goal.slice_bounds-finish-end
slice_bounds-finish-end c = sym (met-ended _ _ _ _ _ _ c.in_ok-w.ensures).ready.line

pub finish-requires : goal.finish-requires
finish-requires c =
    let M = met-ended _ _ _ _ _ _ c.in_ok-w.ensures in
    record { buffered = M.ready; progress_room = M.room }

-- A table that passes condition 7 has 0 in the places beyond its transitions' arguments.
use mathlib.Core.Bool.{true}
use mathlib.Core.List.{List}
use mathlib.Core.Path.{◌≡◌}
use lib.ListN.{length}
use Prim.Native.Nat.{ℕ}
use Rattle.format.specs.Format.{table_bytes}
use Rattle.packed.specs.Packed.{HoldsPadded}
use Rattle.table.specs.Layout.{body, layout_fits, transition_count}
use Rattle.fields.proofs.Transitions.{layout-runs}
use Rattle.table.proofs.Laid.{layout-laid}

pub layout-padded : (b : List ℕ) → length b ≡ table_bytes → layout_fits b ≡ true →
    HoldsPadded (body b) (transition_count b)
layout-padded b size fits = record {
  runs = layout-runs b size fits;
  each = λ i h.
      let laid = (layout-laid b fits).transitions i h in
      record { narrow = laid.arity; rest = laid.rest };
}

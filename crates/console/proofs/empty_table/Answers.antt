-- `console::empty_table` gives the table of the empty set.
use mathlib.Core.Path.{refl}
use Rattle.console.specs.Buffers.{empty_table}
use Rattle.console.proofs.empty_table.Goals as goal

pub returns : goal.returns
unfolding empty_table
returns c = refl

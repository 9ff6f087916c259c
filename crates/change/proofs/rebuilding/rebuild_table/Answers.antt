-- `change::rebuilding::rebuild_table` meets its contract: small arrays are used only if the transitions fit them.
use mathlib.Core.Path.{◌∙◌, ap}
use native.Mathlib.Omega.{arith}
use Rattle.std.specs.Prelude.{Some}
use Rattle.change.specs.Sizes.{is_small}
use Rattle.change.proofs.rebuilding.rebuild_table.Goals as goal

pub rebuild_in-requires : goal.rebuild_in-requires
rebuild_in-requires c = record {
  some_fitting = c.requires.some_fitting_2 (ap (λ s. is_small (Some s)) c.in-Small.is);
  few_enough = omega arith;
}

pub rebuild_in-requires-in-Large : goal.rebuild_in-requires-in-Large
rebuild_in-requires-in-Large c = record { some_fitting = c.requires.some_fitting; few_enough = omega arith }

-- `partition::class_parts` meets its contract: one part, split by the classes as keys.
use Rattle.partition.proofs.Classes.{whole-grouped}
use Rattle.partition.proofs.class_parts.Goals as goal

pub regroup-requires : goal.regroup-requires
regroup-requires c =
    whole-grouped c.requires.n_bound c.one_part-parts.ensures

pub returns : goal.returns
returns c =
    record {
      whole = c.one_part-parts.result;
      keys = c.class_prints-keys.result;
      left = c.regroup.result;
      one = c.one_part-parts.ensures;
      classes = c.class_prints-keys.ensures;
      split = c.regroup.ensures;
    }

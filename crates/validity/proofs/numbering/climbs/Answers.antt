-- `validity::numbering::climbs` meets its contract: the greatest argument against the output.
use Rattle.std.proofs.Common.{ltb, ap₂}
use Rattle.validity.proofs.numbering.climbs.Goals as goal

pub returns : goal.returns
returns c = ap₂ ltb c.top_argument-t.ensures c.out_of.ensures.value

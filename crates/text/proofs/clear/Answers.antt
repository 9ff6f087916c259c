-- `text::clear` meets its contract: it fills the table with zeros.
use Rattle.std.proofs.Common.{rules}
use Rattle.text.specs.Outcome.{no_listing}
use Rattle.text.proofs.clear.Goals as goal

pub returns : goal.returns
unfolding no_listing
returns c = search rules

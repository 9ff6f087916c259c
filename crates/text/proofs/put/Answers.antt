-- `text::put` meets its contract: beyond the table a store changes nothing.
use Rattle.std.proofs.Common.{sym, arith}
use lib.Seq.{set_out}
use Rattle.text.proofs.put.Goals as goal

pub returns-else-i-lt-LISTING_BYTES : goal.returns-else-i-lt-LISTING_BYTES
returns-else-i-lt-LISTING_BYTES c =
    sym (set_out c.args.listing.now c.args.i c.args.value (omega arith))

-- `answering::serials::unrank` meets its contract: 5 to 13, then what the number gives.
use mathlib.Core.Path.{refl}
use Rattle.format.proofs.Refusals.{refusal-some}
use Rattle.answering.proofs.Numbering.{unrank-answered, unrank-passed, unrank-refused}
use Rattle.answering.proofs.serials.unrank.Goals as goal

pub returns-in-Err : goal.returns-in-Err
returns-in-Err c =
    rw c.from.ensures
    (unrank-refused c.args.number c.args.table.now c.args.listing.now c.in-Err.ensures (refusal-some _))

pub list_numbered-requires : goal.list_numbered-requires
list_numbered-requires c =
    let both = unrank-passed c.args.table.now c.args.listing.now c.in_default.ensures refl in
    record { table_value = both.0; listing_len = both.1 }

pub returns : goal.returns
returns c =
    unrank-answered c.args.number c.args.table.now c.args.listing.now
    c.in_default.ensures refl c.list_numbered.ensures

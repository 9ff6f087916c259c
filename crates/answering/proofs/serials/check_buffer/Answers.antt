-- `answering::serials::buffer_refusal` meets its contract: the lengths, then the table's content.
use native.Mathlib.Omega.{arith}
use Rattle.answering.proofs.Numbering.{buffer-5, buffer-6, buffer-content}
use Rattle.answering.proofs.serials.check_buffer.Goals as goal

pub returns-then-table-ne-TABLE_BYTES : goal.returns-then-table-ne-TABLE_BYTES
returns-then-table-ne-TABLE_BYTES c =
    buffer-5 c.args.table.now c.args.listing.now c.if-table-ne-TABLE_BYTES.true

pub returns-then-listing-ne-MAX_LISTING : goal.returns-then-listing-ne-MAX_LISTING
returns-then-listing-ne-MAX_LISTING c =
    buffer-6 c.args.table.now c.args.listing.now c.if-table-ne-TABLE_BYTES.false c.if-listing-ne-MAX_LISTING.true

pub returns : goal.returns
returns c =
    buffer-content c.args.table.now c.args.listing.now c.if-table-ne-TABLE_BYTES.false
    (omega arith) c.check_content.ensures

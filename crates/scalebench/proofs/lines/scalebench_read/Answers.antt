-- `scalebench_read` meets its contract: a buffer of another size is left untouched, else the line is read into it.
use mathlib.Core.Path.{◌∙◌, ap, sym}
use lib.ListN.{length}
use Rattle.scalebench.proofs.Typed.{listed-size, read-listed, read-other, read_number, read_small}
use Rattle.scalebench.proofs.lines.scalebench_read.Goals as goal

pub returns-then-listing-ne-LISTING_BYTES : goal.returns-then-listing-ne-LISTING_BYTES
returns-then-listing-ne-LISTING_BYTES c =
    let both = read-other c.args.line.now c.args.listing.now c.if-listing-ne-LISTING_BYTES.true in
    record { answer = both.0; left = both.1 }

pub copy_from_slice-requires : goal.copy_from_slice-requires
copy_from_slice-requires c =
    c.if-listing-ne-LISTING_BYTES.false ∙
    sym (ap length c.read_line-parsed.ensures.listing ∙ listed-size c.args.line.now)

pub line_number-requires : goal.line_number-requires
line_number-requires c =
    read_small c.args.line.now c.read_line-parsed.ensures.answer

pub returns : goal.returns
returns c =
    let both = read-listed c.args.line.now c.args.listing.now c.if-listing-ne-LISTING_BYTES.false (read_number
    c.args.line.now c.read_line-parsed.ensures.answer c.line_number.ensures) (c.copy_from_slice.ensures.after ∙ c.read_line-parsed.ensures.listing) in
    record { answer = both.0; left = both.1 }

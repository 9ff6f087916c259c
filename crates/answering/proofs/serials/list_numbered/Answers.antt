-- `answering::serials::list_numbered` meets its contract: 18 to 20, or the listing is copied.
use native.Mathlib.Omega.{arith}
use Rattle.automata.specs.Totals.{total}
use Rattle.table.specs.Layout.{decode}
use Rattle.answering.proofs.Numbering.{numbered-beyond, numbered-large, numbered-listed, numbered-over, total-number, total-over}
use Rattle.answering.proofs.serials.list_numbered.Goals as goal

pub returns-in_default : goal.returns-in_default
returns-in_default c =
    let A = decode c.args.table.now in
    rw c.from.ensures (numbered-over c.args.number A c.args.listing.now
    (total-over (total A) c.total_of.ensures c.in_default.is))

pub returns-then-number-value : goal.returns-then-number-value
returns-then-number-value c =
    let A = decode c.args.table.now in
    let n = total-number (total A) c.total_of.ensures c.in-Some.is in
    rw c.from-then-number-value.ensures
    (numbered-beyond c.args.number A c.args.listing.now n.0 (omega (arith, n.1, c.if-number-value.true)))

pub unrank-requires : goal.unrank-requires
unrank-requires c =
    let A = decode c.args.table.now in
    let n = total-number (total A) c.total_of.ensures c.in-Some.is in
    record {
      table_value = c.requires.table_value;
      numbers_of = c.state_numbers-numbers.ensures;
      table_bound = n.0;
      number_bound = omega (arith, n.1, c.if-number-value.false);
      listing_len = c.requires.listing_len;
    }

pub returns-then-unrank : goal.returns-then-unrank
returns-then-unrank c =
    let A = decode c.args.table.now in
    let n = total-number (total A) c.total_of.ensures c.in-Some.is in
    numbered-listed c.args.number A c.args.listing.now n.0 (omega (arith, n.1, c.if-number-value.false))
    c.unrank.ensures.value _ c.unrank.ensures.listing_after c.if-unrank.true

pub returns : goal.returns
returns c =
    let A = decode c.args.table.now in
    let n = total-number (total A) c.total_of.ensures c.in-Some.is in
    rw c.from-2.ensures (numbered-large c.args.number A c.args.listing.now n.0 (omega (arith, n.1, c.if-number-value.false))
    c.unrank.ensures.value _ c.unrank.ensures.listing_after c.if-unrank.false)

-- Each return decides the part of the condition that its test names.
use borrow.Author.Tests.{le-leb, lt-leb}
use lib.ListN.{length}
use Rattle.format.specs.Format.{max_listing, node_bytes}
use Rattle.trees.specs.Listing.{whole_nodes}
use Rattle.listing.proofs.whole_nodes.Goals as goal

pub returns-then-s-lt-NODE_BYTES : goal.returns-then-s-lt-NODE_BYTES
unfolding whole_nodes
returns-then-s-lt-NODE_BYTES c = rw (lt-leb node_bytes (length c.args.s.now) c.if-s-lt-NODE_BYTES.true)

pub returns-then-s-gt-MAX_LISTING : goal.returns-then-s-gt-MAX_LISTING
unfolding whole_nodes
returns-then-s-gt-MAX_LISTING c =
    let n = length c.args.s.now in
    rw (le-leb node_bytes n c.if-s-lt-NODE_BYTES.false, lt-leb n max_listing c.if-s-gt-MAX_LISTING.true)

pub returns : goal.returns
unfolding whole_nodes
returns c =
    let n = length c.args.s.now in
    rw (le-leb node_bytes n c.if-s-lt-NODE_BYTES.false, le-leb n max_listing c.if-s-gt-MAX_LISTING.false)

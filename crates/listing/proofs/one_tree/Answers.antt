-- The bytes list one tree if the reader has read them all.
use mathlib.Core.Path.{◌∙◌, sym}
use Rattle.listing.proofs.ReaderMeaning.{one-tree-measured}
use Rattle.listing.proofs.one_tree.Goals as goal

pub returns : goal.returns
returns c = c.eq.ensures ∙ rw c.tree.ensures (sym (one-tree-measured c.args.s.now))

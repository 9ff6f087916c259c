-- The two readers answer with `measured`. What falls is the number of bytes left, with one step more for the reader
-- of children: it calls the reader of a tree on the same bytes.
use Rattle.std.proofs.Common.{◌*◌, ◌+◌, length}
use Rattle.listing.proofs.+children_tree.Given as goal

abbrev pub decreases-children : goal.decreases-children
decreases-children l = 2 * length l.s.now + 1

abbrev pub decreases-tree : goal.decreases-tree
decreases-tree l = 2 * length l.s.now

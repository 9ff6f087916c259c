-- `text::tree` and `text::children` meet their contracts: each returns what it read, with the cursor after it, or the
-- cursor at the first byte that is not allowed. What falls is the number of bytes left in the line.
use Rattle.std.proofs.Common.{◌-◌, length}
use Rattle.text.proofs.+children_tree.Given as goal

abbrev pub decreases-children : goal.decreases-children
decreases-children l = length l.line.now - l.c.place

abbrev pub decreases-tree : goal.decreases-tree
decreases-tree l = length l.line.now - l.c.place

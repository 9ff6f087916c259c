-- A tree is run by its children one after another, then its root. What is left of the bytes falls: twice their number,
-- and one more for children.
use Rattle.std.proofs.Common.{◌*◌, ◌+◌, length}
use Rattle.running.proofs.+run_children_run_others_run_tree.Given as goal

abbrev pub decreases-run_children : goal.decreases-run_children
decreases-run_children l = 2 * length l.s.now + 1

abbrev pub decreases-run_others : goal.decreases-run_others
decreases-run_others l = 2 * length l.s.now + 1

abbrev pub decreases-run_tree : goal.decreases-run_tree
decreases-run_tree l = 2 * length l.s.now

-- `alike::slots::parent_slot` meets its contract: any frame over subtree j will do.
use mathlib.Core.Path.{◌≡◌}
use lib.ListN.{get_or}
use Rattle.alike.proofs.slots.parent_slot.Given as goal

abbrev pub invariant-loop-k : goal.invariant-loop-k
invariant-loop-k l = l.arity ≡ get_or l.subtrees.arities l.i 0

-- `quotient::nodes::children_own` meets its contract: the children before k have their own names.
use mathlib.Core.Path.{◌≡◌}
use lib.ListN.{get_or}
use Rattle.lists.proofs.Loops.{EveryFrom}
use Rattle.quotient.specs.Named.{has_own_children}
use Rattle.quotient.specs.Nodes.{child_own}
use Rattle.quotient.proofs.nodes.children_own.Given as goal

abbrev pub invariant-loop-k : goal.invariant-loop-k
invariant-loop-k l =
    (l.arity ≡ get_or l.named.subtrees.now.arities l.j 0) ×
    EveryFrom (has_own_children l.named l.j) (child_own l.named.n l.named.subtrees.now.children l.named.names.now l.j)
    (get_or l.named.subtrees.now.arities l.j 0) l.k

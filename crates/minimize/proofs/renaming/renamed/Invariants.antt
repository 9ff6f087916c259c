-- `minimize::renaming::renamed` meets its contract: in the loop the first k arguments have their names, the others
-- are 0.
use mathlib.Core.Path.{◌≡◌}
use Rattle.table.specs.Layout.{arity_of}
use Rattle.minimize.proofs.Entries.{Renaming}
use Rattle.minimize.proofs.renaming.renamed.Given as goal

abbrev pub invariant-loop-k : goal.invariant-loop-k
invariant-loop-k l = (l.n ≡ arity_of l.transitions l.at) × Renaming l.transitions l.at l.names l.entry l.k

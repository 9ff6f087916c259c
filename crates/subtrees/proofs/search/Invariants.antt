-- The loop at j has passed j subtrees, none of them with this label and these children.
use mathlib.Core.Bool.{false}
use mathlib.Core.Path.{◌≡◌}
use Prim.Native.Nat.{◌<◌, ◌≤◌, ℕ}
use Rattle.subtrees.specs.Steps.{same_node}
use Rattle.subtrees.proofs.search.Given as goal

abbrev pub invariant-loop-j : goal.invariant-loop-j
invariant-loop-j l = (l.j ≤ l.subtrees.count) × ((i : ℕ) → i < l.j → same_node l.subtrees.labels l.subtrees.arities l.subtrees.children l.label l.arity l.numbers i ≡ false)

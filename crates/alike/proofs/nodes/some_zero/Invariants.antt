-- The loop at k has passed k bytes, none of them 0.
use mathlib.Core.Path.{◌≡◌}
use Prim.Native.Nat.{◌<◌, ◌≤◌, ℕ}
use lib.ListN.{get_or}
use Rattle.alike.proofs.nodes.some_zero.Given as goal

abbrev pub invariant-loop-k : goal.invariant-loop-k
invariant-loop-k l = (l.k ≤ l.arity) × ((i : ℕ) → i < l.k → get_or l.qs i 0 ≡ 0 → ⊥)

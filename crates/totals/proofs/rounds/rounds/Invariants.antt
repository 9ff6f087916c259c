-- `totals::rounds::rounds` meets its contract: the numbers are those of the trees that are not deeper than `depth`.
use mathlib.Core.List.{List}
use Prim.Native.Nat.{ℕ}
use Rattle.fields.specs.View.{viewed}
use Rattle.totals.proofs.Depths.{Reached}
use Rattle.totals.proofs.rounds.rounds.Given as goal

abbrev pub invariant-loop-depth : goal.invariant-loop-depth
invariant-loop-depth l = (cl : List ℕ) → Reached (viewed cl l.transitions l.n l.count) l.depth l.numbers

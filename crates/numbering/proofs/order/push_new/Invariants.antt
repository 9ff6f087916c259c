-- `numbering::order::push_new` meets its contract: the heap has room, and the numbers and what is best and new stay.
use Prim.Native.Nat.{◌≤◌}
use lib.ListN.{length}
use mathlib.Core.Path.{◌≡◌}
use Rattle.packed.specs.Heads.{Room}
use Rattle.numbering.proofs.order.push_new.Given as goal

abbrev pub invariant-loop-k : goal.invariant-loop-k
invariant-loop-k l =
    (l.size ≤ length l.room) × Room l.room l.spare × (l.placing.numbers ≡ l.initial.placing.numbers) ×
    (l.placing.bests ≡ l.initial.placing.bests) × (l.placing.news ≡ l.initial.placing.news)

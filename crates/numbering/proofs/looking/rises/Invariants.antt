-- `numbering::looking::rises` meets its contract: each transition but the first is compared with the one before.
use Prim.Native.Nat.{◌+◌, ◌<◌, ℕ}
use mathlib.Core.Bool.{true}
use mathlib.Core.Path.{◌≡◌}
use Rattle.automata.specs.Order.{precedes}
use Rattle.packed.specs.Heads.{nth_packed}
use Rattle.numbering.proofs.looking.rises.Given as goal

abbrev pub invariant-loop-i : goal.invariant-loop-i
invariant-loop-i l =
    let t = l.transitions in (j : ℕ) → j + 1 < l.i →
    precedes (nth_packed t.heads.now t.args.now j) (nth_packed t.heads.now t.args.now (j + 1)) ≡ true

-- `totals::search::settle` meets its contract: a link leads to an earlier transition.
use Prim.Native.Nat.{◌<◌, suc, ℕ}
use Rattle.std.specs.Option.{IfSome}
use Rattle.std.specs.declared.option.Option.{Option}
use Rattle.std.specs.declared.option.Option.TheVariants.{None, Some}
use Rattle.totals.proofs.search.settle.Given as goal

abbrev pub invariant-loop-next : goal.invariant-loop-next
invariant-loop-next l = IfSome l.next (λ i. i < l.count)

-- one more than the transition that comes next
abbrev left : Option ℕ → ℕ
left None = 0
left (Some i) = suc i

abbrev pub decreases-loop-next : goal.decreases-loop-next
decreases-loop-next l = left l.next

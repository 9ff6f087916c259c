-- `quotient::nodes::number_each` meets its contract: the subtrees before j have their numbers.
use Rattle.std.proofs.Common.{◌≡◌, ◌<◌, ℕ}
use Rattle.quotient.specs.Nodes.{EachNode}
use Rattle.quotient.proofs.nodes.number_each.Given as goal

abbrev pub invariant-loop-j : goal.invariant-loop-j
invariant-loop-j g l =
    (f : ℕ → ℕ) → ((j : ℕ) → j < l.count → (x : ℕ) → goal.F-post g l.number j x → x ≡ f j) →
    EachNode f l.j l.numbers

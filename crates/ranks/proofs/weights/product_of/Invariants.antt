-- `ranks::weights::product_of` meets its contract: the number is the product over the states from `k` on.
use Rattle.std.proofs.Common.{◌≡◌, ◌<◌, ◌≤◌, ℕ}
use Rattle.totals.specs.Numbers.{number_in}
use Rattle.ranks.proofs.Products.{ProductFrom}
use Rattle.ranks.proofs.weights.product_of.Given as goal

abbrev pub invariant-loop-k : goal.invariant-loop-k
invariant-loop-k g l =
    (l.from ≤ l.k) × ((f : ℕ → ℕ) → ((k : ℕ) → k < l.end → (q : ℕ) → goal.F-post g l.state k q → q ≡ f k) →
    ProductFrom (number_in l.numbers) f l.end l.k l.number)

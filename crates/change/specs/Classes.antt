-- The classes that names have after a change, by number: 1 to n are states, n + j is subtree j.
use Rattle.std.specs.Prelude.{Bool, cond, List, ◌≡◌, ◌≤◌, ℕ, eqb, length}
use Rattle.naming.specs.Classes.{class_in}
use Rattle.quotient.specs.Kept.{state_of}
use Rattle.table.specs.Layout.{class_at}
use Rattle.format.specs.Format.{byte_values}

-- the class of the name p; q has the states of the subtrees. The tree's own name has the class `inserting`, every
-- other name the class of its state
unfoldable pub class_of_name : List ℕ → ℕ → List ℕ → ℕ → Bool → ℕ → Bool
class_of_name b n q own inserting p = cond (eqb p own) inserting (class_in b (state_of n q p))

-- cl has the classes of the names 1 to k
pub record Classed (f : ℕ → Bool) (k : ℕ) (cl : List ℕ) : Type 0 where
  pub size : length cl ≡ byte_values
  pub class : (p : ℕ) → 1 ≤ p → p ≤ k → class_at cl p ≡ f p

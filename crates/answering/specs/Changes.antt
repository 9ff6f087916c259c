-- Adding and removing: the refusals before 16.
use Rattle.std.specs.Prelude.{Bool, List, [], ◌++◌, ◌∷◌, ℕ}
use Rattle.calls.specs.Calls.{Change, presence, scratch_condition}
use Rattle.lists.specs.Conditions.{Condition, first_broken}
use Rattle.table.specs.Intake.{content_conditions, length_condition}
use Rattle.trees.specs.Listing.{listing_conditions}

-- 1 to 13, in 01's order
unfoldable pub input_conditions : List ℕ → List ℕ → List ℕ → List Condition
input_conditions s b w = listing_conditions s ++ (length_condition b ∷ scratch_condition w ∷ content_conditions b)

-- the first of 1 to 13 that is broken, or 0
unfoldable pub input_refusal : List ℕ → List ℕ → List ℕ → ℕ
input_refusal s b w = first_broken (input_conditions s b w)

-- 14 or 15, or 0
abbrev pub presence_refusal : Change → Bool → ℕ
presence_refusal c present = first_broken (presence c present ∷ [])

-- Numbered conditions, and the first that is broken.
use Rattle.std.specs.Prelude.{Bool, cond, List, [], ◌∷◌, ℕ}

-- a condition with the number of its refusal
pub record Condition : Type 0 where
  pub refusal : ℕ
  pub holds : Bool

-- the condition with this number
abbrev pub condition : ℕ → Bool → Condition
condition n b = record { refusal = n; holds = b }

-- the number of the first condition that does not hold; 0 if all hold
abbrev pub first_broken : List Condition → ℕ
first_broken [] = 0
first_broken (c ∷ cs) = let r = first_broken cs in cond c.holds r c.refusal

-- A walk over the uses of two states as argument k: one index goes over the uses of p, another over those of q, in
-- step.
use Rattle.std.specs.Prelude.{true, List, ◌≡◌, ◌*◌, ◌+◌, ◌<◌, ◌≤◌, ℕ}
use Rattle.fields.specs.Fields.{HoldsTransitionsOver}
use Rattle.format.specs.Format.{max_arity, transition_bytes}
use Rattle.packed.specs.Packed.{Searchable}
use Rattle.sorted.specs.Steps.{step_at}
use Rattle.table.specs.Layout.{arg_of, out_of}
use Rattle.uses.specs.Uses.{Arrays, swap_agrees}

-- transitions that can be searched, a place, two states and an end of the walk. Neither state is 0, which stands at
-- the places beyond the arguments
pub record Walkable (s : List ℕ) (c n k p q to : ℕ) : Type 0 where
  pub searchable : Searchable s c
  pub over : HoldsTransitionsOver s c n
  pub inside : to ≤ c
  pub place : k < max_arity
  pub first_some : 1 ≤ p
  pub second-some : 1 ≤ q

-- transition i has p as argument k, or i is the end
pub record AtUse (s : List ℕ) (k p to i : ℕ) : Type 0 where
  pub inside : i ≤ to
  pub here : i < to → arg_of s (transition_bytes * i) k ≡ p

-- i is the first such index from `from` on
pub record NextUse (s : List ℕ) (k p from to i : ℕ) : Type 0 where
  pub on : from ≤ i
  pub found : AtUse s k p to i
  pub none : (y : ℕ) → from ≤ y → y < i → arg_of s (transition_bytes * y) k ≡ p → ⊥

-- each use of p before i agrees with q in its place
pub record Met (a : Arrays) (s : List ℕ) (c k p q i : ℕ) : Type 0 where
  pub each : (y : ℕ) → y < i → arg_of s (transition_bytes * y) k ≡ p → swap_agrees a s c (transition_bytes * y) k q ≡ true

-- each use of p before i agrees with q in its place, and each use of q before x with p in its place
pub record Walked (a : Arrays) (s : List ℕ) (c k p q i x : ℕ) : Type 0 where
  pub first : Met a s c k p q i
  pub second : Met a s c k q p x

-- transitions i and x keep their outputs with the other state in place
pub record Paired (s : List ℕ) (c k p q to i x : ℕ) : Type 0 where
  pub first-inside : i < to
  pub second-inside : x < to
  pub first : step_at s c (transition_bytes * i) k q ≡ out_of s (transition_bytes * i)
  pub second : step_at s c (transition_bytes * x) k p ≡ out_of s (transition_bytes * x)

-- a step of the walk from i and x to two other indices, past at least one use
pub record Stepped (a : Arrays) (s : List ℕ) (c k p q to i x : ℕ) (at : ℕ × ℕ) : Type 0 where
  pub first-inside : at.0 ≤ to
  pub second-inside : at.1 ≤ to
  pub further : i + x < at.0 + at.1
  pub walked : Walked a s c k p q i x → Walked a s c k p q at.0 at.1

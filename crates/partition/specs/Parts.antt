-- States in parts, each with its least state as its leader. Parts are sound: states that nothing separates share one.
use Rattle.std.specs.Prelude.{Bool, true, List, ◌≡◌, ◌≤◌, ℕ, eqb, get_or, length}
use Rattle.automata.specs.Automaton.{Automaton, accepting, states}
use Rattle.automata.specs.Distinguishable.{distinguishable}
use Rattle.format.specs.Format.{byte_values}
use Rattle.lists.specs.Positions.{up_from}
use Rattle.lists.specs.Tests.{every, filter}

-- the leader of q's part
abbrev pub part_of : List ℕ → ℕ → ℕ
part_of m q = get_or m q 0

-- the states 1 to n are in parts, and 0, which is no state, is in none
pub record Grouped (n : ℕ) (m : List ℕ) : Type 0 where
  pub size : length m ≡ byte_values
  pub few : n ≤ 255
  pub none : part_of m 0 ≡ 0
  pub some : (q : ℕ) → 1 ≤ q → q ≤ n → 1 ≤ part_of m q
  pub below : (q : ℕ) → q ≤ n → part_of m q ≤ q
  pub own : (q : ℕ) → q ≤ n → part_of m (part_of m q) ≡ part_of m q

-- all states are in one part
pub record Whole (n : ℕ) (m : List ℕ) : Type 0 where
  pub size : length m ≡ byte_values
  pub none : part_of m 0 ≡ 0
  pub each : (q : ℕ) → 1 ≤ q → q ≤ n → part_of m q ≡ 1

-- states of one part have one class, and states that nothing separates are in one part
pub record Parts (A : Automaton) (m : List ℕ) : Type 0 where
  pub class : (p q : ℕ) → p ≤ states A → q ≤ states A → part_of m p ≡ part_of m q → accepting A p ≡ accepting A q
  pub sound : (p q : ℕ) → p ≤ states A → q ≤ states A → (distinguishable A p q ≡ true → ⊥) → part_of m p ≡ part_of m q

-- q leads its part
abbrev pub leads : List ℕ → ℕ → Bool
leads m q = eqb (part_of m q) q

-- the number of parts
unfoldable pub leaders : List ℕ → ℕ → ℕ
leaders m n = length (filter (leads m) (up_from 1 n))

-- every state has its part for itself
unfoldable pub all_lead : List ℕ → ℕ → Bool
all_lead m n = every (leads m) (up_from 1 n)

-- Bounds of the indices of the transitions that have a state as an argument.
use Rattle.std.specs.Prelude.{List, ◌≡◌, ◌*◌, ◌+◌, ◌<◌, ◌≤◌, ℕ, get_or, length}
use Rattle.format.specs.Format.{byte_values, transition_bytes}
use Rattle.table.specs.Layout.{arg_of, arity_of}

-- every transition that has a state as an argument has an index from the state's entry of lows on and below its entry
-- of lasts
pub record UsesWithin (s : List ℕ) (c : ℕ) (lows lasts : List ℕ) : Type 0 where
  pub above : (i k : ℕ) → i < c → k < arity_of s (transition_bytes * i) →
      get_or lows (arg_of s (transition_bytes * i) k) 0 ≤ i
  pub below : (i k : ℕ) → i < c → k < arity_of s (transition_bytes * i) →
      i < get_or lasts (arg_of s (transition_bytes * i) k) 0
  pub known : (q : ℕ) → get_or lasts q 0 ≤ c

-- lists with an entry for each byte; for a state with uses, the bounds are in order
pub record Spans (lows lasts : List ℕ) : Type 0 where
  pub lows-size : length lows ≡ byte_values
  pub lasts-size : length lasts ≡ byte_values
  pub ordered : (q : ℕ) → 1 ≤ get_or lasts q 0 → get_or lows q 0 < get_or lasts q 0

-- the uses in the first c transitions are noted
pub record Noted (s : List ℕ) (c : ℕ) (lows lasts : List ℕ) : Type 0 where
  pub spans : Spans lows lasts
  pub within : UsesWithin s c lows lasts

-- the same, and the uses in the first n arguments of transition c are noted too
pub record NotedTo (s : List ℕ) (c n : ℕ) (lows lasts : List ℕ) : Type 0 where
  pub spans : Spans lows lasts
  pub above : (i k : ℕ) → i < c → k < arity_of s (transition_bytes * i) →
      get_or lows (arg_of s (transition_bytes * i) k) 0 ≤ i
  pub below : (i k : ℕ) → i < c → k < arity_of s (transition_bytes * i) →
      i < get_or lasts (arg_of s (transition_bytes * i) k) 0
  pub above-here : (k : ℕ) → k < n → get_or lows (arg_of s (transition_bytes * c) k) 0 ≤ c
  pub below-here : (k : ℕ) → k < n → c < get_or lasts (arg_of s (transition_bytes * c) k) 0
  pub known : (q : ℕ) → get_or lasts q 0 ≤ c + 1

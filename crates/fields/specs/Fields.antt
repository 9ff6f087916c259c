-- What reading transitions from bytes needs. A run of transitions is a list of bytes in which transition i starts at
-- byte 12 i: the body of a table, or a scratch.
use Rattle.std.specs.Prelude.{List, map, ◌≡◌, ◌*◌, ◌+◌, ◌<◌, ◌≤◌, ℕ, length}
use Rattle.format.specs.Format.{max_arity, max_product, max_states, max_transitions, table_bytes, transition_bytes}
use Rattle.lists.specs.Positions.{up_from}
use Rattle.table.specs.Layout.{arg_of, arity_of, body, label_of, out_of, state_count, transition_count}

-- the transition that starts at a byte stands inside the run and has at most eight arguments
pub record Readable (s : List ℕ) (at : ℕ) : Type 0 where
  pub inside : at + transition_bytes ≤ length s
  pub narrow : arity_of s at ≤ max_arity

-- the first n arguments of the transition that starts at a byte
abbrev pub first_args : List ℕ → ℕ → ℕ → List ℕ
first_args s at n = map (arg_of s at) (up_from 0 n)

-- the run has n transitions that can be read
pub record HoldsTransitions (s : List ℕ) (n : ℕ) : Type 0 where
  pub inside : transition_bytes * n ≤ length s
  pub few : n ≤ max_product
  pub narrow : (i : ℕ) → i < n → arity_of s (transition_bytes * i) ≤ max_arity

-- the run has n transitions over the states 1 to m
pub record HoldsTransitionsOver (s : List ℕ) (n m : ℕ) : Type 0 where
  pub runs : HoldsTransitions s n
  pub label : (i : ℕ) → i < n → 1 ≤ label_of s (transition_bytes * i)
  pub arg-some : (i k : ℕ) → i < n → k < arity_of s (transition_bytes * i) → 1 ≤ arg_of s (transition_bytes * i) k
  pub arg-state : (i k : ℕ) → i < n → k < arity_of s (transition_bytes * i) → arg_of s (transition_bytes * i) k ≤ m
  pub out_some : (i : ℕ) → i < n → 1 ≤ out_of s (transition_bytes * i)
  pub out-state : (i : ℕ) → i < n → out_of s (transition_bytes * i) ≤ m

-- what code may rely on in a table that passed condition 7
pub record InTable (b : List ℕ) : Type 0 where
  pub size : length b ≡ table_bytes
  pub states : state_count b ≤ max_states
  pub transitions : transition_count b ≤ max_transitions
  pub over : HoldsTransitionsOver (body b) (transition_count b) (state_count b)

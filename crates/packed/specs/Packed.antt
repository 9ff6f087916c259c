-- A transition as two numbers: its arguments in one, its child count and label in the other.
use Rattle.std.specs.Prelude.{Bool, ◌&&◌, ◌||◌, true, List, ◌≡◌, ◌*◌, ◌+◌, ◌-◌, ◌<◌, ◌^◌, ◌≤◌, suc, zero, ℕ, eqb, ltb, get_or}
use Rattle.automata.specs.Order.{rising}
use Rattle.fields.specs.Fields.{HoldsTransitions}
use Rattle.format.specs.Format.{byte_pairs, byte_values, max_arity, transition_bytes}
use Rattle.table.specs.Layout.{arg_of, arity_of, label_of, transitions_in}

-- v followed by the n digits f k, f (k + 1), .. to base 256
abbrev pub digits : (ℕ → ℕ) → ℕ → ℕ → ℕ → ℕ
digits f k zero v = v
digits f k (suc n) v = digits f (suc k) n (byte_values * v + f k)

-- a number of n digits followed by zeros, eight digits in all
abbrev pub pad_to : ℕ → ℕ → ℕ
pad_to n v = v * 2 ^ (8 * (max_arity - n))

-- element k of a list; 0 beyond its end
abbrev pub padded : List ℕ → ℕ → ℕ
padded xs k = get_or xs k 0

-- the first eight numbers of a list as one number to base 256, the first the highest; 0 beyond its end
unfoldable pub packed : List ℕ → ℕ
packed xs = digits (padded xs) 0 max_arity 0

-- the eight places for arguments of the transition that starts at a byte, as one number
unfoldable pub packed_at : List ℕ → ℕ → ℕ
packed_at s at = digits (arg_of s at) 0 max_arity 0

-- its child count and label as one number
abbrev pub meta_at : List ℕ → ℕ → ℕ
meta_at s at = byte_pairs * arity_of s at + label_of s at

-- a transition with the numbers m and a comes before one with n and b
abbrev pub before : ℕ → ℕ → ℕ → ℕ → Bool
before m a n b = ltb m n || (eqb m n && ltb a b)

-- transition i comes before one with the numbers m and a
abbrev pub comes_before : List ℕ → ℕ → ℕ → ℕ → Bool
comes_before s m a i = before (meta_at s (transition_bytes * i)) (packed_at s (transition_bytes * i)) m a

-- the transition that starts at a byte has at most eight arguments, and 0 in the places beyond them
pub record Padded (s : List ℕ) (at : ℕ) : Type 0 where
  pub narrow : arity_of s at ≤ max_arity
  pub rest : (k : ℕ) → arity_of s at ≤ k → k < max_arity → arg_of s at k ≡ 0

-- the bytes s hold n transitions that can be read as two numbers
pub record HoldsPadded (s : List ℕ) (n : ℕ) : Type 0 where
  pub runs : HoldsTransitions s n
  pub each : (i : ℕ) → i < n → Padded s (transition_bytes * i)

-- the same, and each transition comes before the next
pub record Searchable (s : List ℕ) (n : ℕ) : Type 0 where
  pub padded : HoldsPadded s n
  pub rises : rising (transitions_in s n) ≡ true

-- The parts of a table as they are written from two lists of numbers.
use Rattle.std.specs.Prelude.{List, ◌≡◌, ◌%◌, ◌*◌, ◌+◌, ◌/◌, ◌<◌, ◌≤◌, ℕ, get_or, length}
use Rattle.format.specs.Format.{count_at, head_bytes, max_arity, max_states, table_bytes, transition_bytes}
use Rattle.table.specs.Layout.{arg_of, arity_of, label_of, out_of}
use Rattle.packed.specs.Heads.{head_arity, head_label, head_out, place_of}

-- the bytes from `at` on are those of the transition packed in h and a
pub record EntryAt (t : List ℕ) (at h a : ℕ) : Type 0 where
  pub label : label_of t at ≡ head_label h
  pub arity : arity_of t at ≡ head_arity h
  pub arg : (k : ℕ) → k < max_arity → arg_of t at k ≡ place_of a k
  pub out : out_of t at ≡ head_out h

-- t is b with n transitions, packed in hs and us, from byte `start` on
pub record RunPut (b t hs us : List ℕ) (start n : ℕ) : Type 0 where
  pub size : length t ≡ length b
  pub head : (i : ℕ) → i < start → get_or t i 0 ≡ get_or b i 0
  pub each : (i : ℕ) → i < n → EntryAt t (start + transition_bytes * i) (get_or hs i 0) (get_or us i 0)
  pub beyond : (i : ℕ) → start + transition_bytes * n ≤ i → get_or t i 0 ≡ get_or b i 0

-- t is b with zeros from byte `start` up to byte `end`
pub record ZerosBetween (b t : List ℕ) (start end : ℕ) : Type 0 where
  pub size : length t ≡ length b
  pub below : (i : ℕ) → i < start → get_or t i 0 ≡ get_or b i 0
  pub zeros : (i : ℕ) → start ≤ i → i < end → get_or t i 0 ≡ 0
  pub beyond : (i : ℕ) → end ≤ i → get_or t i 0 ≡ get_or b i 0

-- every byte of a table after its first n transitions is 0
abbrev pub BlankAfter : List ℕ → ℕ → Type 0
BlankAfter t n = (i : ℕ) → head_bytes + transition_bytes * n ≤ i → get_or t i 0 ≡ 0

-- every byte of a table: n states with classes f, and c transitions
pub record TablePut (t : List ℕ) (n : ℕ) (f : ℕ → ℕ) (hs us : List ℕ) (c : ℕ) : Type 0 where
  pub size : length t ≡ table_bytes
  pub states : get_or t 0 0 ≡ n
  pub class : (q : ℕ) → 1 ≤ q → q ≤ max_states → get_or t q 0 ≡ f q
  pub high : get_or t count_at 0 ≡ c / 256
  pub low : get_or t (count_at + 1) 0 ≡ c % 256
  pub each : (i : ℕ) → i < c → EntryAt t (head_bytes + transition_bytes * i) (get_or hs i 0) (get_or us i 0)
  pub zeros : BlankAfter t c

-- Transitions as two numbers each: a head, which has child count, label and output, and packed arguments. There is
-- one list of heads and one of packed arguments.
use Rattle.std.specs.Prelude.{List, map, ◌≡◌, ◌%◌, ◌*◌, ◌+◌, ◌-◌, ◌/◌, ◌<◌, ◌^◌, ◌≤◌, ℕ, get_or, length, take}
use Rattle.automata.specs.Automaton.{Transition}
use Rattle.format.specs.Format.{byte_pairs, byte_values, max_arity, max_label, max_transitions}
use Rattle.lists.specs.Positions.{up_from}
use Rattle.packed.specs.Packed.{packed}

-- argument k of packed arguments, which is digit k of eight to base 256
abbrev pub place_of : ℕ → ℕ → ℕ
place_of a k = a / 2 ^ (8 * (7 - k)) % byte_values

-- the parts of a head
abbrev pub head_out : ℕ → ℕ
head_out h = h % byte_values

abbrev pub head_meta : ℕ → ℕ
head_meta h = h / byte_values

abbrev pub head_label : ℕ → ℕ
head_label h = head_meta h % byte_pairs

abbrev pub head_arity : ℕ → ℕ
head_arity h = head_meta h / byte_pairs

-- the transition of a head and packed arguments
abbrev pub packed_transition : ℕ → ℕ → Transition
packed_transition h a = record {
  label = head_label h;
  args = map (place_of a) (up_from 0 (head_arity h));
  out = head_out h;
}

-- transition i of two lists, and the first n of them
abbrev pub nth_packed : List ℕ → List ℕ → ℕ → Transition
nth_packed hs us i = packed_transition (get_or hs i 0) (get_or us i 0)

unfoldable pub packed_in : List ℕ → List ℕ → ℕ → List Transition
packed_in hs us n = map (nth_packed hs us) (up_from 0 n)

-- the label and the child count fit a table, the arguments are not 0, and the places beyond them are 0
pub record Packs (h a : ℕ) : Type 0 where
  pub label-some : 1 ≤ head_label h
  pub label : head_label h ≤ max_label
  pub narrow : head_arity h ≤ max_arity
  pub some : (k : ℕ) → k < head_arity h → 1 ≤ place_of a k
  pub rest : (k : ℕ) → head_arity h ≤ k → k < max_arity → place_of a k ≡ 0

-- the two lists have the same length, at most that of a table's transitions
pub record Room (hs us : List ℕ) : Type 0 where
  pub args : length us ≡ length hs
  pub few : length hs ≤ max_transitions

-- the first n entries of lists with room are transitions that fit a table
pub record HoldsPacked (hs us : List ℕ) (n : ℕ) : Type 0 where
  pub room : Room hs us
  pub few : n ≤ length hs
  pub each : (i : ℕ) → i < n → Packs (get_or hs i 0) (get_or us i 0)

-- the two numbers of a transition
abbrev pub head_of : Transition → ℕ
head_of τ = byte_values * (byte_pairs * length τ.args + τ.label) + τ.out

abbrev pub packed_args : Transition → ℕ
packed_args τ = packed τ.args

-- the first n entries of two lists are the numbers of transitions, in order
pub record HoldsEntries (hs us : List ℕ) (n : ℕ) (W : List Transition) : Type 0 where
  pub size : length W ≡ n
  pub heads : take n hs ≡ map head_of W
  pub args : take n us ≡ map packed_args W

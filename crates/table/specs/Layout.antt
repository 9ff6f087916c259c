-- The table (01: the book): an automaton in 12,491 bytes.
use Rattle.std.specs.Prelude.{Bool, ◌&&◌, cond, List, [], map, ◌%◌, ◌*◌, ◌+◌, ◌-◌, ◌/◌, ℕ, eqb, leb, ltb, drop, get_or, length}
use Rattle.automata.specs.Automaton.{Automaton, Transition, accepting, states}
use Rattle.automata.specs.Valid.{in_range}
use Rattle.format.specs.Format.{args_at, count_at, head_bytes, label_bytes, label_in, label_written, max_arity}
use Rattle.format.specs.Format.{max_states, max_transitions, out_at, table_bytes, transition_bytes}
use Rattle.lists.specs.Positions.{up_from}
use Rattle.lists.specs.Tests.{bit, every}

-- ---- reading

-- byte 0: the number of states
abbrev pub state_count : List ℕ → ℕ
state_count b = get_or b 0 0

-- byte q: the class of state q
abbrev pub class_at : List ℕ → ℕ → Bool
class_at b q = eqb (get_or b q 0) 1

-- two bytes for the number of transitions, high byte first
abbrev pub transition_count : List ℕ → ℕ
transition_count b = 256 * get_or b count_at 0 + get_or b (count_at + 1) 0

-- the fields of the transition that starts at a byte
abbrev pub label_of : List ℕ → ℕ → ℕ
label_of s at = label_in s at

abbrev pub arity_of : List ℕ → ℕ → ℕ
arity_of s at = get_or s (at + label_bytes) 0

abbrev pub arg_of : List ℕ → ℕ → ℕ → ℕ
arg_of s at k = get_or s (at + args_at + k) 0

abbrev pub out_of : List ℕ → ℕ → ℕ
out_of s at = get_or s (at + out_at) 0

-- the transition that starts at a byte
abbrev pub transition_at : List ℕ → ℕ → Transition
transition_at s at =
    record { label = label_of s at; args = map (arg_of s at) (up_from 0 (arity_of s at)); out = out_of s at }

-- transition i of a run of transitions, and the first n of them
abbrev pub nth_transition : List ℕ → ℕ → Transition
nth_transition s i = transition_at s (transition_bytes * i)

unfoldable pub transitions_in : List ℕ → ℕ → List Transition
transitions_in s n = map (nth_transition s) (up_from 0 n)

-- the part of a table that holds transitions
abbrev pub body : List ℕ → List ℕ
body b = drop head_bytes b

-- the automaton that a table holds
unfoldable pub decode : List ℕ → Automaton
decode b = record {
  classes = map (class_at b) (up_from 1 (state_count b));
  transitions = transitions_in (body b) (transition_count b);
}

-- ---- writing

-- byte j of a transition; arguments beyond the number of them are 0
abbrev pub transition_byte : Transition → ℕ → ℕ
transition_byte τ j =
    cond (ltb j label_bytes) (get_or (label_written τ.label) j 0)
    (cond (ltb j args_at) (length τ.args) (cond (ltb j out_at) (get_or τ.args (j - args_at) 0) τ.out))

-- what stands beyond the last transition: zeros
abbrev pub blank : Transition
blank = record { label = 0; args = []; out = 0 }

-- byte j of a run of transitions
abbrev pub body_byte : List Transition → ℕ → ℕ
body_byte τs j = transition_byte (get_or τs (j / transition_bytes) blank) (j % transition_bytes)

-- byte i of the table
abbrev pub byte_at : Automaton → ℕ → ℕ
byte_at A i =
    cond (eqb i 0) (states A) (cond (ltb i count_at) (bit (accepting A i))
    (cond (eqb i count_at) (length A.transitions / 256)
    (cond (ltb i head_bytes) (length A.transitions % 256) (body_byte A.transitions (i - head_bytes)))))

-- the table that holds an automaton
unfoldable pub encode : Automaton → List ℕ
encode A = map (byte_at A) (up_from 0 table_bytes)

-- ---- refusal 7

-- byte q of the classes: 0 or 1 up to the number of states, 0 beyond it
abbrev pub class_fits : List ℕ → ℕ → Bool
class_fits b q = cond (leb q (state_count b)) (leb (get_or b q 0) 1) (eqb (get_or b q 0) 0)

-- argument k of a transition: a state up to the number of arguments, 0 beyond it
abbrev pub arg_fits : List ℕ → ℕ → ℕ → ℕ → Bool
arg_fits s n at k = cond (ltb k (arity_of s at)) (in_range n (arg_of s at k)) (eqb (arg_of s at k) 0)

-- the fields of the transition that starts at a byte, if there are n states
unfoldable pub transition_fits : List ℕ → ℕ → ℕ → Bool
transition_fits s n at =
    leb 1 (label_of s at) && leb (arity_of s at) max_arity && every (arg_fits s n at) (up_from 0 max_arity) &&
    in_range n (out_of s at)

abbrev pub nth_fits : List ℕ → ℕ → ℕ → Bool
nth_fits s n i = transition_fits s n (transition_bytes * i)

abbrev pub zero_at : List ℕ → ℕ → Bool
zero_at s j = eqb (get_or s j 0) 0

-- condition 7: every field is in its range, and every byte that must be 0 is
unfoldable pub layout_fits : List ℕ → Bool
layout_fits b =
    leb (state_count b) max_states && every (class_fits b) (up_from 1 max_states) &&
    leb (transition_count b) max_transitions &&
    every (nth_fits (body b) (state_count b)) (up_from 0 (transition_count b)) &&
    every (zero_at (body b))
    (up_from (transition_bytes * transition_count b) (transition_bytes * (max_transitions - transition_count b)))

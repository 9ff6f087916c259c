-- The bytes of an encoded automaton, field by field. `encode` stays shut beyond this file.
use mathlib.Core.Bool.{Bool, cond, false, true}
use mathlib.Core.List.{List}
use mathlib.Core.Path.{◌∙◌, ◌≡◌, ap, ap₂, refl}
use Prim.Native.Nat.{◌%◌, ◌*◌, ◌+◌, ◌-◌, ◌/◌, ◌<◌, ◌≤◌, ℕ}
use native.Mathlib.Omega.{arith}
use lib.ListN.{get_or, length}
use lib.Seq.{get_or-drop}
use borrow.Author.Tests.{le-ltb, lt-ltb, ne_eqb}
use Rattle.lists.specs.Tests.{bit}
use Rattle.automata.specs.Automaton.{Automaton, Transition, accepting, states}
use Rattle.format.specs.Format.{args_at, count_at, head_bytes, label_bytes, label_from, max_arity, max_states, max_transitions}
use Rattle.format.specs.Format.{out_at}
use Rattle.format.specs.Format.{table_bytes, transition_bytes}
use Rattle.table.specs.Layout.{arg_of, arity_of, blank, body, body_byte, byte_at, encode, label_of, out_of}
use Rattle.table.specs.Layout.{state_count, transition_byte, transition_count}
use Rattle.format.proofs.Labels.{from-written}
use Rattle.lists.proofs.Intervals.{get_d-tabulated, length-tabulated}

-- what holds of each branch of a choice, if it is taken, holds of the choice
pub cond-all : {X : Type 0} (P : X → Type 0) (t : Bool) {x y : X} → (t ≡ true → P x) → (t ≡ false → P y) →
    P (cond t x y)
cond-all P true f g = f refl
cond-all P false f g = g refl

pub cond-is : {X : Type 0} (t : Bool) {x y z : X} → (t ≡ true → x ≡ z) → (t ≡ false → y ≡ z) → cond t x y ≡ z
cond-is t {z = z} f g = cond-all (λ w. w ≡ z) t f g

pub encode-length : (A : Automaton) → length (encode A) ≡ table_bytes
unfolding encode
encode-length A = length-tabulated (byte_at A) 0 table_bytes

pub encode-byte : (A : Automaton) (i : ℕ) → i < table_bytes → get_or (encode A) i 0 ≡ byte_at A i
unfolding encode
encode-byte A i h = let e : 0 + i ≡ i = omega arith in get_d-tabulated (byte_at A) 0 table_bytes i 0 h ∙ ap (byte_at A) e

-- ---- the head

pub encode-states : (A : Automaton) → state_count (encode A) ≡ states A
encode-states A = encode-byte A 0 (omega arith)

pub byte_at-class : (A : Automaton) (q : ℕ) → 1 ≤ q → q ≤ max_states → byte_at A q ≡ bit (accepting A q)
byte_at-class A q h l = rw (ne_eqb q 0 (λ e. omega arith), lt-ltb q count_at (omega arith))

pub encode-class : (A : Automaton) (q : ℕ) → 1 ≤ q → q ≤ max_states → get_or (encode A) q 0 ≡ bit (accepting A q)
encode-class A q h l = encode-byte A q (omega arith) ∙ byte_at-class A q h l

pub encode-count : (A : Automaton) → transition_count (encode A) ≡ length A.transitions
encode-count A = omega (arith, encode-byte A count_at (omega arith), encode-byte A (count_at + 1) (omega arith))

-- ---- the transitions

pub byte_at-body : (A : Automaton) (j : ℕ) → byte_at A (head_bytes + j) ≡ body_byte A.transitions j
byte_at-body A j =
    let e : head_bytes + j - head_bytes ≡ j = omega arith in
    rw (
      ne_eqb (head_bytes + j) 0 (λ z. omega arith),
      le-ltb (head_bytes + j) count_at (omega arith),
      ne_eqb (head_bytes + j) count_at (λ z. omega arith),
      le-ltb (head_bytes + j) head_bytes (omega arith),
    )
    (ap (body_byte A.transitions) e)

pub encode-body : (A : Automaton) (j : ℕ) → j < transition_bytes * max_transitions →
    get_or (body (encode A)) j 0 ≡ body_byte A.transitions j
encode-body A j h = get_or-drop head_bytes (encode A) j 0 ∙ encode-byte A (head_bytes + j) (omega arith) ∙ byte_at-body A j

pub body_byte-at : (τs : List Transition) (i r : ℕ) → r < transition_bytes →
    body_byte τs (transition_bytes * i + r) ≡ transition_byte (get_or τs i blank) r
body_byte-at τs i r h =
    let q : (transition_bytes * i + r) / transition_bytes ≡ i = omega arith in
    let m : (transition_bytes * i + r) % transition_bytes ≡ r = omega arith in
    ap₂ (λ (k l : ℕ). transition_byte (get_or τs k blank) l) q m

pub encode-field : (A : Automaton) (i r : ℕ) → i < max_transitions → r < transition_bytes →
    get_or (body (encode A)) (transition_bytes * i + r) 0 ≡ transition_byte (get_or A.transitions i blank) r
encode-field A i r h l =
    encode-body A (transition_bytes * i + r) (omega arith) ∙ body_byte-at A.transitions i r l

pub transition_byte-arg : (τ : Transition) (k : ℕ) → k < max_arity → transition_byte τ (args_at + k) ≡ get_or τ.args k 0
transition_byte-arg τ k h =
    let e : args_at + k - args_at ≡ k = omega arith in
    rw (
      le-ltb (args_at + k) label_bytes (omega arith),
      le-ltb (args_at + k) args_at (omega arith),
      lt-ltb (args_at + k) out_at (omega arith),
    ) (ap (λ (j : ℕ). get_or τ.args j 0) e)

module _ (A : Automaton) (i : ℕ) (h : i < max_transitions) where
  pub encode-label : label_of (body (encode A)) (transition_bytes * i) ≡ (get_or A.transitions i blank).label
  encode-label =
      let e : transition_bytes * i ≡ transition_bytes * i + 0 = omega arith in
      ap₂ label_from (ap (λ (j : ℕ). get_or (body (encode A)) j 0) e ∙ encode-field A i 0 h (omega arith))
      (encode-field A i 1 h (omega arith)) ∙ from-written (get_or A.transitions i blank).label

  pub encode-arity : arity_of (body (encode A)) (transition_bytes * i) ≡ length (get_or A.transitions i blank).args
  encode-arity = encode-field A i label_bytes h (omega arith)

  pub encode-arg : (k : ℕ) → k < max_arity →
      arg_of (body (encode A)) (transition_bytes * i) k ≡ get_or (get_or A.transitions i blank).args k 0
  encode-arg k l =
      let e : transition_bytes * i + args_at + k ≡ transition_bytes * i + (args_at + k) = omega arith in
      ap (λ (j : ℕ). get_or (body (encode A)) j 0) e ∙ encode-field A i (args_at + k) h (omega arith)
      ∙ transition_byte-arg (get_or A.transitions i blank) k l

  pub encode-out : out_of (body (encode A)) (transition_bytes * i) ≡ (get_or A.transitions i blank).out
  encode-out = encode-field A i out_at h (omega arith)

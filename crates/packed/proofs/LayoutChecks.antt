-- Condition 7, return by return: at each early return one test fails, and the last return gives the last test.
use mathlib.Core.Bool.{Bool, ◌&&◌, and_assoc, false, true}
use mathlib.Core.List.{List}
use mathlib.Core.Path.{◌∙◌, ◌≡◌, ap, ap₂, sym}
use Prim.Native.Nat.{◌*◌, ◌+◌, ◌-◌, ◌<◌, ◌≤◌, suc, zero, ℕ}
use native.Mathlib.Nat.{add-zero, zero-add}
use native.Mathlib.Omega.{arith}
use lib.ListN.{length}
use borrow.Author.Tests.{le-leb, le-ltb, lt-leb, lt-ltb}
use Rattle.automata.specs.Valid.{in_range}
use Rattle.format.specs.Format.{head_bytes, max_arity, max_states, max_transitions, table_bytes, transition_bytes}
use Rattle.lists.specs.Positions.{up_from}
use Rattle.lists.specs.Tests.{every}
use Rattle.table.specs.Layout.{arg_fits, arity_of, body, class_fits, label_of, layout_fits, nth_fits, out_of, state_count}
use Rattle.table.specs.Layout.{transition_count, transition_fits, zero_at}
use Rattle.packed.specs.Places.{arg_empty, arg_in_range}
use Rattle.fields.proofs.Transitions.{body-length, part_body}
use Rattle.lists.proofs.Parts.{part}
use Rattle.lists.proofs.Positions.{up_from-in}
use Rattle.lists.proofs.Tests.{every-same-in}

-- a test that is one test up to a number and another from there on
every-parts : (p q r : ℕ → Bool) (m k n : ℕ) → ((j : ℕ) → k ≤ j → j < k + m → r j ≡ p j) →
    ((j : ℕ) → k + m ≤ j → r j ≡ q j) → every r (up_from k (m + n)) ≡ (every p (up_from k m) && every q (up_from (k + m) n))
every-parts p q r zero k n f g =
    ap (λ j. every r (up_from k j)) (zero-add n)
    ∙ every-same-in r q (up_from k n) (λ j i. g j (omega (arith, up_from-in k n j i)))
    ∙ ap (λ j. every q (up_from j n)) (sym (add-zero k))
every-parts p q r (suc m) k n f g =
    let e : suc m + n ≡ suc (m + n) = omega arith in
    let d : suc k + m ≡ k + suc m = omega arith in
    ap (λ j. every r (up_from k j)) e
    ∙ ap₂ ◌&&◌ (f k (omega arith) (omega arith))
    (every-parts p q r m (suc k) n (λ j a b. f j (omega arith) (omega arith)) (λ j a. g j (omega arith)))
    ∙ sym (and_assoc (p k) (every p (up_from (suc k) m)) (every q (up_from (suc k + m) n)))
    ∙ ap (λ j. (p k && every p (up_from (suc k) m)) && every q (up_from j n)) d

module _ (s : List ℕ) (n at : ℕ) where
  pub no_label : label_of s at < 1 → false ≡ transition_fits s n at
  unfolding transition_fits
  no_label h = rw (lt-leb 1 (label_of s at) h)

  module _ (label : 1 ≤ label_of s at) where
    pub many-args : max_arity < arity_of s at → false ≡ transition_fits s n at
    unfolding transition_fits
    many-args h = rw (le-leb 1 (label_of s at) label, lt-leb (arity_of s at) max_arity h)

    module _ (arity : arity_of s at ≤ max_arity) where
      -- the arguments, and the places beyond them
      args-parts :
          every (arg_fits s n at) (up_from 0 max_arity) ≡
          (every (arg_in_range s n at) (up_from 0 (arity_of s at)) &&
          every (arg_empty s at) (up_from (arity_of s at) (max_arity - arity_of s at)))
      args-parts =
          let e : max_arity ≡ arity_of s at + (max_arity - arity_of s at) = omega arith in
          ap (λ k. every (arg_fits s n at) (up_from 0 k)) e
          ∙ every-parts (arg_in_range s n at) (arg_empty s at) (arg_fits s n at) (arity_of s at) 0
          (max_arity - arity_of s at) (λ k _ h. rw (lt-ltb k (arity_of s at) (omega arith)))
          (λ k h. rw (le-ltb k (arity_of s at) (omega arith)))
          ∙ ap (λ k. every (arg_in_range s n at) (up_from 0 (arity_of s at)) &&
          every (arg_empty s at) (up_from k (max_arity - arity_of s at))) (zero-add (arity_of s at))

      pub broken-arg : {k : ℕ} {r : Bool} → k ≡ arity_of s at → r ≡ every (arg_in_range s n at) (up_from 0 k) →
          r ≡ false → false ≡ transition_fits s n at
      unfolding transition_fits
      broken-arg d e h =
          rw (le-leb 1 (label_of s at) label, le-leb (arity_of s at) max_arity arity, args-parts, ← d, ← e, h)

      pub broken-rest : {k : ℕ} {r u : Bool} → k ≡ arity_of s at → r ≡ every (arg_in_range s n at) (up_from 0 k) →
          r ≡ true → u ≡ every (arg_empty s at) (up_from k (max_arity - k)) → u ≡ false → false ≡ transition_fits s n at
      unfolding transition_fits
      broken-rest d e h f l =
          rw (le-leb 1 (label_of s at) label, le-leb (arity_of s at) max_arity arity, args-parts, ← d, ← e, h, ← f, l)

      pub out-decides : {k q : ℕ} {r u x : Bool} → k ≡ arity_of s at →
          r ≡ every (arg_in_range s n at) (up_from 0 k) → r ≡ true →
          u ≡ every (arg_empty s at) (up_from k (max_arity - k)) → u ≡ true →
          q ≡ out_of s at → x ≡ in_range n q → x ≡ transition_fits s n at
      unfolding transition_fits
      out-decides d e h f l o i =
          rw (
            le-leb 1 (label_of s at) label,
            le-leb (arity_of s at) max_arity arity,
            args-parts,
            ← d,
            ← e,
            h,
            ← f,
            l,
            ← o,
          ) i

-- the result for the part of a table that the code hands on is that for the table's transitions
pub part-fits : (b : List ℕ) {r : Bool} {states count : ℕ} → states ≡ state_count b → count ≡ transition_count b →
    r ≡ every (nth_fits (part b head_bytes) states) (up_from 0 count) →
    r ≡ every (nth_fits (body b) (state_count b)) (up_from 0 (transition_count b))
part-fits b p q e = rw (part_body b, p, q) at e

zeros-length : (b : List ℕ) → length b ≡ table_bytes →
    length (body b) - transition_bytes * transition_count b ≡ transition_bytes * (max_transitions - transition_count b)
zeros-length b size = omega (arith, body-length b size)

pub part-zeros : (b : List ℕ) {r : Bool} {count : ℕ} → length b ≡ table_bytes → count ≡ transition_count b →
    r ≡ every (zero_at (part b head_bytes))
    (up_from (transition_bytes * count)
    (length (part b head_bytes) - transition_bytes * count)) →
    r ≡ every (zero_at (body b))
    (up_from (transition_bytes * transition_count b) (transition_bytes * (max_transitions - transition_count b)))
part-zeros b size q e =
    (rw (part_body b, q) at e) ∙
    ap (λ n. every (zero_at (body b)) (up_from (transition_bytes * transition_count b) n)) (zeros-length b size)

module _ (b : List ℕ) where
  pub many-states : max_states < state_count b → false ≡ layout_fits b
  unfolding layout_fits
  many-states h = rw (lt-leb (state_count b) max_states h)

  module _ (states : state_count b ≤ max_states) where
    pub broken-class : every (class_fits b) (up_from 1 max_states) ≡ false → false ≡ layout_fits b
    unfolding layout_fits
    broken-class e = rw (le-leb (state_count b) max_states states, e)

    module _ (classes : every (class_fits b) (up_from 1 max_states) ≡ true) where
      pub many-transitions : max_transitions < transition_count b → false ≡ layout_fits b
      unfolding layout_fits
      many-transitions h =
          rw (le-leb (state_count b) max_states states, classes, lt-leb (transition_count b) max_transitions h)

      module _ (transitions : transition_count b ≤ max_transitions) where
        pub last-tests :
            layout_fits b ≡
            (every (nth_fits (body b) (state_count b)) (up_from 0 (transition_count b)) &&
            every (zero_at (body b))
            (up_from (transition_bytes * transition_count b) (transition_bytes * (max_transitions - transition_count b))))
        unfolding layout_fits
        last-tests =
            rw (
              le-leb (state_count b) max_states states,
              classes,
              le-leb (transition_count b) max_transitions transitions,
            )

        pub broken-field : every (nth_fits (body b) (state_count b)) (up_from 0 (transition_count b)) ≡ false →
            false ≡ layout_fits b
        broken-field e = sym (last-tests ∙ rw e)

        pub zeros-decide : {r : Bool} →
            every (nth_fits (body b) (state_count b)) (up_from 0 (transition_count b)) ≡ true →
            r ≡ every (zero_at (body b))
            (up_from (transition_bytes * transition_count b) (transition_bytes * (max_transitions - transition_count b))) →
            r ≡ layout_fits b
        zeros-decide e h = h ∙ sym (last-tests ∙ rw e)

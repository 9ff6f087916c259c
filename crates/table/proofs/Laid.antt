-- Condition 7 by index: what it says of each byte.
use mathlib.Core.Bool.{Bool, ◌&&◌, true}
use mathlib.Core.List.{List}
use mathlib.Core.Path.{◌≡◌}
use Prim.Native.Nat.{◌*◌, ◌-◌, ◌<◌, ◌≤◌, ℕ}
use native.Mathlib.Omega.{arith}
use lib.Dec.{leb, ltb}
use lib.ListN.{get_or}
use borrow.Author.Tests.{eq-eqb, eqb-true, le-leb, le-ltb, leb-false, leb-true, lt-leb, lt-ltb, ltb-false, ltb-true}
use Rattle.automata.specs.Valid.{in_range}
use Rattle.format.specs.Format.{max_arity, max_states, max_transitions, transition_bytes}
use Rattle.lists.specs.Positions.{up_from}
use Rattle.lists.specs.Tests.{every}
use Rattle.table.specs.Layout.{arg_fits, arg_of, arity_of, body, class_fits, label_of, layout_fits, nth_fits, out_of}
use Rattle.table.specs.Layout.{state_count, transition_count, transition_fits, zero_at}
use Rattle.automata.proofs.Valid.{in-range, range-in}
use Rattle.lists.proofs.Intervals.{at_every, every-at}
use Rattle.lists.proofs.Tests.{and_both, and_left, and_right}
use Rattle.table.proofs.Bytes.{cond-is}

-- the fields of the transition that starts at a byte, if there are n states
pub record LaidTransition (s : List ℕ) (n at : ℕ) : Type 0 where
  pub label : 1 ≤ label_of s at
  pub arity : arity_of s at ≤ max_arity
  pub args : (k : ℕ) → k < arity_of s at → (1 ≤ arg_of s at k) × (arg_of s at k ≤ n)
  pub rest : (k : ℕ) → arity_of s at ≤ k → k < max_arity → arg_of s at k ≡ 0
  pub out : (1 ≤ out_of s at) × (out_of s at ≤ n)

-- the bytes of a table
pub record Laid (b : List ℕ) : Type 0 where
  pub states : state_count b ≤ max_states
  pub classes : (q : ℕ) → 1 ≤ q → q ≤ state_count b → get_or b q 0 ≤ 1
  pub classes-rest : (q : ℕ) → state_count b < q → q ≤ max_states → get_or b q 0 ≡ 0
  pub count : transition_count b ≤ max_transitions
  pub transitions : (i : ℕ) → i < transition_count b → LaidTransition (body b) (state_count b) (transition_bytes * i)
  pub zeros : (j : ℕ) → transition_bytes * transition_count b ≤ j → j < transition_bytes * max_transitions →
      get_or (body b) j 0 ≡ 0

-- ---- conjunctions of four and of five tests

conjuncts₄ : (a b c d : Bool) → (a && b && c && d) ≡ true → (a ≡ true) × (b ≡ true) × (c ≡ true) × (d ≡ true)
conjuncts₄ a b c d e =
    let abc = and_left (a && b && c) d e in
    let ab = and_left (a && b) c abc in
    (and_left a b ab, and_right a b ab, and_right (a && b) c abc, and_right (a && b && c) d e)

conjuncts₅ : (a b c d e : Bool) → (a && b && c && d && e) ≡ true →
    (a ≡ true) × (b ≡ true) × (c ≡ true) × (d ≡ true) × (e ≡ true)
conjuncts₅ a b c d e h =
    let r = conjuncts₄ a b c d (and_left (a && b && c && d) e h) in
    (r.0, r.1, r.2, r.3, and_right (a && b && c && d) e h)

-- ---- the fields of a transition

module _ (s : List ℕ) (n at : ℕ) where
  pub transition-laid : transition_fits s n at ≡ true → LaidTransition s n at
  unfolding transition_fits
  transition-laid e =
      let r = conjuncts₄ (leb 1 (label_of s at)) (leb (arity_of s at) max_arity)
      (every (arg_fits s n at) (up_from 0 max_arity)) (in_range n (out_of s at)) e in
      let fits : (k : ℕ) → k < max_arity → arg_fits s n at k ≡ true =
      λ k h. every-at (arg_fits s n at) 0 max_arity r.2 k (omega arith) (omega arith) in
      let a : arity_of s at ≤ max_arity = leb-true (arity_of s at) max_arity r.1 in
      record {
        label = leb-true 1 (label_of s at) r.0;
        arity = a;
        args = λ k h. in-range n (arg_of s at k) (rw (lt-ltb k (arity_of s at) h) at (fits k (omega arith)));
        rest = λ k h l. eqb-true (arg_of s at k) 0 (rw (le-ltb k (arity_of s at) h) at (fits k l));
        out = in-range n (out_of s at) r.3;
      }

  pub laid-transition : LaidTransition s n at → transition_fits s n at ≡ true
  unfolding transition_fits
  laid-transition l =
      and_both (and_both (and_both (le-leb 1 (label_of s at) l.label) (le-leb (arity_of s at) max_arity l.arity))
      (at_every (arg_fits s n at) 0 max_arity (λ k _ h. cond-is (ltb k (arity_of s at))
      (λ e. let r = l.args k (ltb-true k (arity_of s at) e) in range-in n (arg_of s at k) r.0 r.1)
      (λ e. eq-eqb (arg_of s at k) 0 (l.rest k (ltb-false k (arity_of s at) e) (omega arith))))))
      (range-in n (out_of s at) l.out.0 l.out.1)

-- ---- the bytes of a table

module _ (b : List ℕ) where
  pub layout-laid : layout_fits b ≡ true → Laid b
  unfolding layout_fits
  layout-laid e =
      let n = state_count b in
      let m = transition_count b in
      let r = conjuncts₅ (leb n max_states) (every (class_fits b) (up_from 1 max_states)) (leb m max_transitions)
      (every (nth_fits (body b) n) (up_from 0 m))
      (every (zero_at (body b)) (up_from (transition_bytes * m) (transition_bytes * (max_transitions - m)))) e in
      let fits : (q : ℕ) → 1 ≤ q → q ≤ max_states → class_fits b q ≡ true =
      λ q h l. every-at (class_fits b) 1 max_states r.1 q h (omega arith) in
      let s : n ≤ max_states = leb-true n max_states r.0 in
      let c : m ≤ max_transitions = leb-true m max_transitions r.2 in
      record {
        states = s;
        classes = λ q h l. leb-true (get_or b q 0) 1 (rw (le-leb q n l) at (fits q h (omega arith)));
        classes-rest = λ q h l. eqb-true (get_or b q 0) 0 (rw (lt-leb q n h) at (fits q (omega arith) l));
        count = c;
        transitions = λ i h. transition-laid (body b) n (transition_bytes * i)
            (every-at (nth_fits (body b) n) 0 m r.3 i (omega arith) (omega arith));
        zeros = λ j h l. eqb-true (get_or (body b) j 0) 0
            (every-at (zero_at (body b)) (transition_bytes * m) (transition_bytes * (max_transitions - m)) r.4
            j h (omega arith));
      }

  pub laid-layout : Laid b → layout_fits b ≡ true
  unfolding layout_fits
  laid-layout l =
      and_both (and_both (and_both (and_both
      (le-leb (state_count b) max_states l.states)
      (at_every (class_fits b) 1 max_states (λ q h k. cond-is (leb q (state_count b))
      (λ e. le-leb (get_or b q 0) 1 (l.classes q h (leb-true q (state_count b) e)))
      (λ e. eq-eqb (get_or b q 0) 0 (l.classes-rest q (leb-false q (state_count b) e) (omega arith))))))
      (le-leb (transition_count b) max_transitions l.count))
      (at_every (nth_fits (body b) (state_count b)) 0 (transition_count b)
      (λ i _ h. laid-transition (body b) (state_count b) (transition_bytes * i) (l.transitions i (omega arith)))))
      (at_every (zero_at (body b)) (transition_bytes * transition_count b)
      (transition_bytes * (max_transitions - transition_count b))
      (λ j h k. eq-eqb (get_or (body b) j 0) 0 (l.zeros j h (omega (arith, l.count)))))

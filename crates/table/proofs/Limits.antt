-- A table in the layout holds an automaton within the limits whose states are in range, and the table of such an
-- automaton is in the layout.
use mathlib.Core.Bool.{Bool, ◌&&◌, false, true}
use mathlib.Core.List.{List, map}
use mathlib.Core.Path.{◌∙◌, ◌≡◌, ap, subst, subst₂, sym}
use Prim.Native.Nat.{◌%◌, ◌*◌, ◌+◌, ◌<◌, ◌≤◌, suc, zero, ℕ}
use native.Mathlib.Omega.{arith}
use lib.ListN.{get_or-eq_default, get_or, length}
use Rattle.automata.specs.Automaton.{Automaton, Transition, accepting, states}
use Rattle.automata.specs.Valid.{in_range, states_in_range}
use Rattle.format.specs.Format.{AllBytes, head_bytes}
use Rattle.format.specs.Format.{max_transitions, transition_bytes}
use Rattle.lists.specs.Positions.{up_from}
use Rattle.lists.specs.Tests.{◌∈◌, bit, every}
use Rattle.table.specs.Intake.{WithinLimits}
use Rattle.table.specs.Layout.{arg_of, arity_of, blank, body, decode, encode, layout_fits}
use Rattle.table.specs.Layout.{nth_transition, out_of, state_count, transition_at, transition_byte, transition_count}
use Rattle.trees.specs.Legal.{LegalNode}
use Rattle.format.proofs.Bytes.{drop-bytes}
use Rattle.format.proofs.Labels.{from-most}
use Rattle.automata.proofs.Valid.{InRange, range-in, ranged-transition}
use Rattle.lists.proofs.Intervals.{get_d-in, length-tabulated, tabulated-in}
use Rattle.lists.proofs.Tests.{and_both, in-every}
use Rattle.table.proofs.Bytes.{encode-arg, encode-arity, encode-body}
use Rattle.table.proofs.Bytes.{encode-class, encode-count, encode-label, encode-out, encode-states}
use Rattle.table.proofs.Decoded.{decoded-count, decoded-in, decoded-states}
use Rattle.table.proofs.Laid.{Laid, LaidTransition, laid-layout, layout-laid}
use Rattle.table.proofs.RoundTrip.{blank-byte, nth-legal}

-- ---- what a table in the layout holds

-- arguments and output of a transition are states, n being their number
abbrev StatesBelow : ℕ → Transition → Type 0
StatesBelow n τ = (every (in_range n) τ.args && in_range n τ.out) ≡ true

laid-ranged : (s : List ℕ) (n at : ℕ) → LaidTransition s n at → StatesBelow n (transition_at s at)
laid-ranged s n at l =
    and_both (in-every (in_range n) (map (arg_of s at) (up_from 0 (arity_of s at))) args)
    (range-in n (out_of s at) l.out.0 l.out.1)
  where
    args : (q : ℕ) → q ∈ map (arg_of s at) (up_from 0 (arity_of s at)) → in_range n q ≡ true
    args q m =
        let (k, _, h, e) = tabulated-in (arg_of s at) 0 (arity_of s at) q m in
        let r = l.args k (omega arith) in
        rw e (range-in n (arg_of s at k) r.0 r.1)

module _ (b : List ℕ) (laid : Laid b) where
  pub laid-in-range : states_in_range (decode b) ≡ true
  laid-in-range =
      in-every (λ τ. every (in_range (states (decode b))) τ.args && in_range (states (decode b)) τ.out)
      (decode b).transitions (λ τ m. good τ (decoded-in b τ m))
    where
      good : (τ : Transition) → (i : ℕ) × (i < transition_count b) × (τ ≡ nth_transition (body b) i) →
          StatesBelow (states (decode b)) τ
      good τ (i, h, e) =
          subst₂ StatesBelow (sym (decoded-states b)) (sym e)
          (laid-ranged (body b) (state_count b) (transition_bytes * i) (laid.transitions i h))

  pub laid-within : AllBytes b → WithinLimits (decode b)
  laid-within bytes = record {
    states = omega (arith, decoded-states b, laid.states);
    transitions = omega (arith, decoded-count b, laid.count);
    legal = λ τ m. legal τ (decoded-in b τ m);
  }
    where
      legal : (τ : Transition) → (i : ℕ) × (i < transition_count b) × (τ ≡ nth_transition (body b) i) →
          LegalNode τ.label (length τ.args)
      legal τ (i, h, e) =
          let l = laid.transitions i h in
          let at = transition_bytes * i in
          let bytes' = drop-bytes head_bytes b bytes in
          subst (λ (υ : Transition). LegalNode υ.label (length υ.args)) (sym e)
          record {
            label = (l.label, from-most _ _ (bytes' at) (bytes' (at + 1)));
            arity = omega (arith, length-tabulated (arg_of (body b) at) 0 (arity_of (body b) at), l.arity);
          }

pub layout-within : (b : List ℕ) → AllBytes b → layout_fits b ≡ true → WithinLimits (decode b)
layout-within b bytes fits = laid-within b (layout-laid b fits) bytes

pub layout-in-range : (b : List ℕ) → layout_fits b ≡ true → states_in_range (decode b) ≡ true
layout-in-range b fits = laid-in-range b (layout-laid b fits)

-- ---- the table of an automaton

bit-bound : (t : Bool) → bit t ≤ 1
bit-bound true = omega arith
bit-bound false = omega arith

pub accepting-beyond : (A : Automaton) (q : ℕ) → states A < q → accepting A q ≡ false
accepting-beyond A zero h = absurd (omega arith)
accepting-beyond A (suc q) h = get_or-eq_default A.classes false (omega arith)

module _ (A : Automaton) (within : WithinLimits A) (ranged : states_in_range A ≡ true) where
  abbrev nth : ℕ → Transition
  nth i = get_or A.transitions i blank

  nth-range : (i : ℕ) → i < length A.transitions → InRange A (nth i)
  nth-range i h = ranged-transition A ranged (nth i) (get_d-in A.transitions i blank h)

  encode-laid-transition : (i : ℕ) → i < length A.transitions →
      LaidTransition (body (encode A)) (state_count (encode A)) (transition_bytes * i)
  encode-laid-transition i h =
      let m : i < max_transitions = omega (arith, within.transitions) in
      let legal = nth-legal A within i h in
      let range = nth-range i h in
      let arity = encode-arity A i m in
      record {
        label = omega (arith, encode-label A i m, legal.label);
        arity = omega (arith, arity, legal.arity);
        args = λ k l. omega (
          arith,
          encode-states A,
          encode-arg A i m k (omega (arith, arity, legal.arity)),
          range.args (get_or (nth i).args k 0) (get_d-in (nth i).args k 0 (omega (arith, arity))),
        );
        rest = λ k l j. encode-arg A i m k j ∙ get_or-eq_default (nth i).args 0 (omega (arith, arity));
        out = omega (arith, encode-states A, encode-out A i m, range.out);
      }

  pub encode-laid : Laid (encode A)
  encode-laid = record {
    states = omega (arith, encode-states A, within.states);
    classes = λ q h l. omega (
      arith,
      encode-class A q h (omega (arith, encode-states A, within.states)),
      bit-bound (accepting A q),
    );
    classes-rest = λ q h l.
        encode-class A q (omega arith) l ∙ ap bit (accepting-beyond A q (omega (arith, encode-states A)));
    count = omega (arith, encode-count A, within.transitions);
    transitions = λ i h. encode-laid-transition i (omega (arith, encode-count A));
    zeros = λ j h l.
        encode-body A j l
        ∙ ap (λ (τ : Transition). transition_byte τ (j % transition_bytes))
        (get_or-eq_default A.transitions blank (omega (arith, encode-count A)))
        ∙ blank-byte (j % transition_bytes);
  }

  pub encode-layout : layout_fits (encode A) ≡ true
  encode-layout = laid-layout (encode A) encode-laid

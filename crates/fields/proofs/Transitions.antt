-- Transitions of a run by index, and what condition 7 says of them.
use mathlib.Core.Bool.{Bool, true}
use mathlib.Core.List.{List, [], ◌++◌, ◌∷◌, map}
use mathlib.Core.Path.{◌∙◌, ◌≡◌, ap, subst, sym}
use Prim.Native.Nat.{◌*◌, ◌-◌, ◌<◌, ◌≤◌, suc, ℕ}
use native.Mathlib.Nat.{zero-add}
use native.Mathlib.Omega.{arith}
use lib.ListN.{get_or, length, length-drop}
use Rattle.automata.specs.Automaton.{Transition}
use Rattle.fields.specs.Fields.{InTable, Readable, HoldsTransitions, HoldsTransitionsOver}
use Rattle.format.specs.Format.{head_bytes, max_transitions, table_bytes, transition_bytes}
use Rattle.lists.specs.Positions.{up_from}
use Rattle.lists.specs.Tests.{◌∈◌, every}
use Rattle.table.specs.Intake.{table_refusal}
use Rattle.table.specs.Layout.{arg_of, arity_of, body, layout_fits, nth_transition, state_count, transition_at}
use Rattle.table.specs.Layout.{transition_count, transitions_in}
use Rattle.lists.proofs.Intervals.{get_d-tabulated, length-tabulated, tabulated-suc}
use Rattle.lists.proofs.Loops.{EveryFrom, every-start}
use Rattle.lists.proofs.Parts.{part, part-drop}
use Rattle.lists.proofs.Positions.{up_from-in}
use Rattle.lists.proofs.Tests.{every-mapped, map-in}
use Rattle.table.proofs.Intake.{unrefused-passes}
use Rattle.table.proofs.Laid.{Laid, LaidTransition, layout-laid}

-- the part of a table that code hands on is its body
pub part_body : (b : List ℕ) → part b head_bytes ≡ body b
part_body b = part-drop b head_bytes

pub body-length : (b : List ℕ) → length b ≡ table_bytes → length (body b) ≡ transition_bytes * max_transitions
body-length b e = length-drop head_bytes b ∙ ap (λ n. n - head_bytes) e

-- the transitions of a run from number i on
abbrev pub transitions_from : List ℕ → ℕ → ℕ → List Transition
transitions_from s i n = map (nth_transition s) (up_from i n)

-- one transition more
pub transitions_in-suc : (s : List ℕ) (n : ℕ) → transitions_in s (suc n) ≡ transitions_in s n ++ (nth_transition s n ∷ [])
unfolding transitions_in
transitions_in-suc s n =
    tabulated-suc (nth_transition s) 0 n ∙ ap (λ i. transitions_in s n ++ (nth_transition s i ∷ [])) (zero-add n)

pub readable : {s : List ℕ} {n : ℕ} → HoldsTransitions s n → (i : ℕ) → i < n → Readable s (transition_bytes * i)
readable r i h = record { inside = omega (arith, r.inside); narrow = r.narrow i h }

-- ---- the arguments of a transition

pub args-length : (s : List ℕ) (at : ℕ) → length (transition_at s at).args ≡ arity_of s at
args-length s at = length-tabulated (arg_of s at) 0 (arity_of s at)

pub arg-at : (s : List ℕ) (at k : ℕ) → k < arity_of s at → get_or (transition_at s at).args k 0 ≡ arg_of s at k
arg-at s at k h = get_d-tabulated (arg_of s at) 0 (arity_of s at) k 0 h ∙ ap (arg_of s at) (zero-add k)

pub in-args : (s : List ℕ) (at q : ℕ) → q ∈ (transition_at s at).args →
    (k : ℕ) × (k < arity_of s at) × (q ≡ arg_of s at k)
in-args s at q m = let r = map-in (arg_of s at) (up_from 0 (arity_of s at)) q m in
    (r.0, (let u = up_from-in 0 (arity_of s at) r.0 r.1 in omega arith), r.2)

-- a loop over the arguments tests them all
pub args-every : (p : ℕ → Bool) (s : List ℕ) (at : ℕ) {n : ℕ} → n ≡ arity_of s at →
    EveryFrom (every p (transition_at s at).args) (λ k. p (arg_of s at k)) n 0
args-every p s at {n} e =
    subst (λ (b : Bool). EveryFrom b (λ k. p (arg_of s at k)) n 0)
    (ap (λ (m : ℕ). every (λ k. p (arg_of s at k)) (up_from 0 m)) e
    ∙ sym (every-mapped p (arg_of s at) (up_from 0 (arity_of s at))))
    (every-start n (zero-add n))

-- and one over the transitions
pub transitions-every : (p : Transition → Bool) (s : List ℕ) (n : ℕ) →
    EveryFrom (every p (transitions_in s n)) (λ i. p (nth_transition s i)) n 0
unfolding transitions_in
transitions-every p s n =
    subst (λ (b : Bool). EveryFrom b (λ i. p (nth_transition s i)) n 0)
    (sym (every-mapped p (nth_transition s) (up_from 0 n))) (every-start n (zero-add n))

-- ---- condition 7

pub layout-in-table : (b : List ℕ) → length b ≡ table_bytes → layout_fits b ≡ true → InTable b
layout-in-table b size fits =
    record { size = size; states = laid.states; transitions = laid.count; over = over }
  where
    laid : Laid b
    laid = layout-laid b fits

    at : (i : ℕ) → i < transition_count b → LaidTransition (body b) (state_count b) (transition_bytes * i)
    at = laid.transitions

    inside : transition_bytes * transition_count b ≤ length (body b)
    inside = omega (arith, body-length b size, laid.count)

    over : HoldsTransitionsOver (body b) (transition_count b) (state_count b)
    over = record {
      runs = record { inside = inside; few = omega (arith, laid.count); narrow = λ i h. (at i h).arity };
      label = λ i h. (at i h).label;
      arg-some = λ i k h l. ((at i h).args k l).0;
      arg-state = λ i k h l. ((at i h).args k l).1;
      out_some = λ i h. (at i h).out.0;
      out-state = λ i h. (at i h).out.1;
    }

-- a table that passes the check is one
pub passed-table : (b : List ℕ) → table_refusal b ≡ 0 → InTable b
passed-table b e = let p = unrefused-passes b e in layout-in-table b p.length p.layout

pub layout-runs : (b : List ℕ) → length b ≡ table_bytes → layout_fits b ≡ true → HoldsTransitions (body b) (transition_count b)
layout-runs b size fits = (layout-in-table b size fits).over.runs

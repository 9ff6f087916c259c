-- The trees of a state at transitions before one, one transition at a time.
use mathlib.Core.Bool.{false, true}
use mathlib.Core.List.{List, ◌∷◌, map}
use mathlib.Core.Path.{◌∙◌, ◌≡◌, ap, refl}
use Prim.Native.Nat.{◌+◌, ◌<◌, ◌≤◌, ℕ}
use native.Mathlib.Nat.{sub-zero}
use native.Mathlib.Omega.{arith}
use Rattle.std.specs.declared.option.Option.{Option}
use Rattle.std.specs.declared.option.Option.TheVariants.{Some}
use Rattle.automata.specs.Automaton.{matches}
use Rattle.automata.specs.Ranks.{sum_before}
use Rattle.lists.proofs.Loops.{up_from-next, up_from-none}
use Rattle.table.specs.Layout.{nth_transition, transitions_in}
use Rattle.totals.specs.Limited.{total_of, worth}
use Rattle.totals.proofs.Limits.{total-is, total-plus}
use Rattle.ranks.proofs.Places.{later_transitions, trees_at}

-- r is the number of trees at the transitions before place i, and what is left to count stands from there on
pub record CountedTo (w : ℕ → ℕ) (q a : ℕ) (qs s : List ℕ) (c i : ℕ) (r : Option ℕ) : Type 0 where
  pub within : i ≤ c
  pub counted : ℕ
  pub is : r ≡ total_of counted
  pub whole : sum_before w q a qs (transitions_in s c) ≡ counted + sum_before w q a qs (later_transitions s c i)

module _ {w : ℕ → ℕ} {q a : ℕ} {qs s : List ℕ} {c : ℕ} where
  pub counted_start : CountedTo w q a qs s c 0 (Some 0)
  unfolding transitions_in
  counted_start = record {
    within = omega arith;
    counted = 0;
    is = total-is refl (omega arith);
    whole = rw (sub-zero c) (omega arith);
  }

  module _ {i : ℕ} {r : Option ℕ} (x : CountedTo w q a qs s c i r) where
    pub counted-end : c ≤ i → r ≡ total_of (sum_before w q a qs (transitions_in s c))
    counted-end h =
        let e : x.counted ≡ sum_before w q a qs (transitions_in s c) = omega (
          arith,
          x.whole,
          ap (λ (is : List ℕ). sum_before w q a qs (map (nth_transition s) is)) (up_from-none i c h),
        ) in
        x.is ∙ ap total_of e

    module _ (more : i < c) where
      next : later_transitions s c i ≡ nth_transition s i ∷ later_transitions s c (i + 1)
      next = ap (map (nth_transition s)) (up_from-next i c more)

      pub counted-found : matches a qs (nth_transition s i) ≡ true → r ≡ total_of
          (sum_before w q a qs (transitions_in s c))
      counted-found e =
          let z : sum_before w q a qs (later_transitions s c i) ≡ 0 = ap (sum_before w q a qs) next ∙ rw e in
          let d : x.counted ≡ sum_before w q a qs (transitions_in s c) = omega (arith, x.whole) in
          x.is ∙ ap total_of d

      pub counted_next : matches a qs (nth_transition s i) ≡ false → {t r' : Option ℕ} →
          t ≡ total_of (trees_at w q (nth_transition s i)) → r' ≡ total_of (worth r + worth t) →
          CountedTo w q a qs s c (i + 1) r'
      counted_next e f g =
          let z : sum_before w q a qs (later_transitions s c i) ≡
          trees_at w q (nth_transition s i) + sum_before w q a qs (later_transitions s c (i + 1)) =
          ap (sum_before w q a qs) next ∙ rw e in
          record {
            within = omega arith;
            counted = x.counted + trees_at w q (nth_transition s i);
            is = g ∙ total-plus x.counted (trees_at w q (nth_transition s i)) x.is f;
            whole = omega (arith, x.whole);
          }

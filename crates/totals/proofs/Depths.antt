-- Rounds by depth, and numbers that a round leaves as they are: both are the numbers of trees.
use mathlib.Core.Bool.{true}
use mathlib.Core.List.{List}
use mathlib.Core.Path.{◌∙◌, ◌≡◌, ap, refl, subst, sym}
use Prim.Native.Nat.{◌+◌, ◌<◌, ◌≤◌, min, suc, zero, ℕ}
use native.Mathlib.Numerals.{add-one}
use native.Mathlib.Omega.{arith}
use lib.ListN.{replicate}
use Rattle.std.specs.declared.option.Option.{Option}
use Rattle.std.specs.declared.option.Option.TheVariants.{Some}
use Rattle.automata.specs.Acyclic.{acyclic}
use Rattle.automata.specs.Automaton.{Automaton, IsState, states}
use Rattle.automata.specs.Order.{rising}
use Rattle.automata.specs.Totals.{number_at, sum_into, trees_of, trees_within}
use Rattle.automata.specs.Valid.{states_in_range}
use Rattle.automata.proofs.TotalsCapped.{capped-lawful}
use Rattle.automata.proofs.TotalsSums.{limited, sum-limited, sum_same}
use Rattle.automata.proofs.TotalsWithin.{trees_within-suc}
use Rattle.automata.proofs.Valid.{ranged-transition}
use Rattle.fields.specs.Fields.{HoldsTransitionsOver}
use Rattle.fields.specs.View.{viewed}
use Rattle.fields.proofs.Views.{viewed-ranged, viewed-states}
use Rattle.format.specs.Format.{byte_values}
use Rattle.lists.specs.Positions.{up_from}
use Rattle.lists.specs.Tests.{every}
use Rattle.lists.proofs.Intervals.{every-at, get_d-zeros}
use Rattle.table.specs.Layout.{transitions_in}
use Rattle.totals.specs.Limited.{limit}
use Rattle.totals.specs.Numbers.{NumbersOf, Sums, number_in, same_in}
use Rattle.totals.proofs.Tables.{number-none, same_numbers}

-- the numbers are those of the trees that have at most d nodes on the longest way down, up to the limit
pub record Reached (A : Automaton) (d : ℕ) (m : List (Option ℕ)) : Type 0 where
  pub each : (q : ℕ) → 1 ≤ q → q ≤ states A → number_in m q ≡ min limit (number_at (trees_within A d) q)

pub reached-start : (A : Automaton) → states A < byte_values → {m : List (Option ℕ)} →
    m ≡ replicate byte_values (Some 0) → Reached A 0 m
unfolding trees_within
reached-start A few e = record { each = λ q h l. ap (λ m. number_in m q) e ∙ number-none q (omega arith) ∙ none q }
  where
    none : (q : ℕ) → 0 ≡ min limit (number_at (replicate (states A) 0) q)
    none zero = refl
    none (suc q) = ap (min limit) (sym (get_d-zeros (states A) q))

-- a round from w, numbers that are those of v up to the limit
pub round-limited : (A : Automaton) → states_in_range A ≡ true → (v w : ℕ → ℕ) →
    ((q : ℕ) → IsState A q → w q ≡ min limit (v q)) → (q : ℕ) →
    min limit (sum_into w q A.transitions) ≡ min limit (sum_into v q A.transitions)
round-limited A ranged v w e q =
    ap (min limit) (sum_same w (limited limit v) q A.transitions
    (λ τ i o p j. e p ((ranged-transition A ranged τ i).args p j)))
    ∙ sum-limited limit v q A.transitions

module _ (cl s : List ℕ) (n c : ℕ) (over : HoldsTransitionsOver s c n) (few : n < byte_values) where
  abbrev A : Automaton
  A = viewed cl s n c

  -- one round more
  pub reached-next : {d : ℕ} {m m' : List (Option ℕ)} → Reached A d m → Sums (number_in m) (transitions_in s c) m' →
      Reached A (d + 1) m'
  reached-next {d} {m} {m'} x y = subst (λ (k : ℕ). Reached A k m') (sym (add-one d)) deeper
    where
      deeper : Reached A (suc d) m'
      deeper = record {
        each = λ q h l.
            y.each q (omega (arith, viewed-states cl s n c))
            ∙ round-limited A (viewed-ranged cl s n c over) (number_at (trees_within A d)) (number_in m)
            (λ p (a, b). x.each p a b) q
            ∙ ap (min limit) (sym (trees_within-suc A d q (h, l)));
      }

  pub reached-end : {d : ℕ} {m : List (Option ℕ)} → Reached A d m → d ≡ n → NumbersOf A m
  unfolding trees_of
  reached-end {d} {m} x e = record {
    each = λ q h l.
        x.each q h l
        ∙ ap (λ (k : ℕ). min limit (number_at (trees_within A k) q)) (e ∙ sym (viewed-states cl s n c));
  }

  -- numbers that a round leaves as they are
  pub lawful-numbers : rising (transitions_in s c) ≡ true → acyclic A ≡ true → {m m' : List (Option ℕ)} →
      Sums (number_in m) (transitions_in s c) m' → every (same_in m m') (up_from 1 n) ≡ true → NumbersOf A m
  lawful-numbers rises ac {m} {m'} y e = record {
    each = λ q h l. capped-lawful A (viewed-ranged cl s n c over) rises ac limit (number_in m) law q (h, l);
  }
    where
      law : (q : ℕ) → IsState A q → number_in m q ≡ min limit (sum_into (number_in m) q A.transitions)
      law q (h, l) =
          let k : q ≤ n = omega (arith, viewed-states cl s n c) in
          same_numbers m m' q (every-at (same_in m m') 1 n e q h (omega arith)) ∙ y.each q (omega arith)

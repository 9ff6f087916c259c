-- Sums over transitions, one transition after another: the sum so far and the sum of the rest.
use mathlib.Core.Bool.{Bool, false, true}
use mathlib.Core.List.{List, [], ◌∷◌, map}
use mathlib.Core.Path.{◌∙◌, ◌≡◌, ap, refl, sym}
use Prim.Native.Nat.{◌*◌, ◌+◌, ◌-◌, ◌<◌, ◌≤◌, min, ℕ}
use native.Mathlib.Nat.{sub-zero}
use native.Mathlib.Omega.{arith}
use lib.Dec.{eqb, leb}
use lib.ListN.{length, length-replicate, length-set, set}
use lib.Seq.{get_or-set_other, get_or-set_same}
use borrow.Author.Tests.{eqb-false, eqb-true, le-leb, lt-leb}
use Rattle.automata.specs.Automaton.{Transition}
use Rattle.automata.specs.OpenStates.{sum_over}
use Rattle.automata.specs.Totals.{product_over, sum_into}
use Rattle.format.specs.Format.{byte_values, max_product, transition_bytes}
use Rattle.lists.specs.Positions.{up_from}
use Rattle.lists.proofs.Intervals.{get_d-zeros}
use Rattle.lists.proofs.Loops.{up_from-next, up_from-none}
use Rattle.table.specs.Layout.{nth_transition, out_of, transitions_in}
use Rattle.pairs.specs.Counts.{Raised, SumsInto, entry, product_cap, sum_cap, zeros}

-- the transitions from number i on
abbrev transitions_left : List ℕ → ℕ → ℕ → List Transition
transitions_left s n i = map (nth_transition s) (up_from i (n - i))

left-all : (s : List ℕ) (n : ℕ) → transitions_left s n 0 ≡ transitions_in s n
unfolding transitions_in
left-all s n = ap (λ (k : ℕ). map (nth_transition s) (up_from 0 k)) (sub-zero n)

left-next : (s : List ℕ) (n i : ℕ) → i < n → transitions_left s n i ≡ nth_transition s i ∷ transitions_left s n (i + 1)
left-next s n i h = ap (map (nth_transition s)) (up_from-next i n h)

left-none : (s : List ℕ) (n i : ℕ) → n ≤ i → transitions_left s n i ≡ []
left-none s n i h = ap (map (nth_transition s)) (up_from-none i n h)

-- ---- for each state

-- m has the sums over the transitions before number i, for states whose number is not 0
pub record SumsFrom (w : ℕ → ℕ) (s : List ℕ) (n : ℕ) (m : List ℕ) (i : ℕ) : Type 0 where
  pub within : i ≤ n
  pub size : length m ≡ byte_values
  pub left : (q : ℕ) → q < byte_values → 0 < w q →
      min sum_cap (entry m q + sum_into w q (transitions_left s n i)) ≡ min sum_cap (sum_into w q (transitions_in s n))

module _ {w : ℕ → ℕ} {s : List ℕ} {n : ℕ} where
  pub sums-start : {m : List ℕ} → m ≡ zeros → SumsFrom w s n m 0
  sums-start {m} e = record {
    within = omega arith;
    size = ap length e ∙ length-replicate {A = ℕ} byte_values 0;
    left = λ q h _. omega (
      arith,
      ap (λ (l : List ℕ). entry l q) e ∙ get_d-zeros byte_values q,
      ap (λ (τs : List Transition). sum_into w q τs) (left-all s n),
    );
  }

  pub sums_next : {m m' : List ℕ} {i : ℕ} → SumsFrom w s n m i → i < n →
      Raised w (out_of s (transition_bytes * i)) (product_over w (nth_transition s i).args) m m' →
      SumsFrom w s n m' (i + 1)
  sums_next {m} {m'} {i} inv h r = record {
    within = omega arith;
    size = r.size ∙ inv.size;
    left = λ q l p. go q l p (eqb (out_of s (transition_bytes * i)) q) refl;
  }
    where
      go : (q : ℕ) → q < byte_values → 0 < w q → (b : Bool) → eqb (out_of s (transition_bytes * i)) q ≡ b →
          min sum_cap (entry m' q + sum_into w q (transitions_left s n (i + 1))) ≡
          min sum_cap (sum_into w q (transitions_in s n))
      go q l p true e =
          let d = eqb-true (out_of s (transition_bytes * i)) q e in
          let f : entry m' q ≡ min sum_cap (entry m q + product_over w (nth_transition s i).args) =
          ap (entry m') (sym d) ∙ r.here (omega (arith, ap w d))
          ∙ ap (λ (o : ℕ). min sum_cap (entry m o + product_over w (nth_transition s i).args)) d in
          let g : sum_into w q (transitions_left s n i) ≡
          product_over w (nth_transition s i).args + sum_into w q (transitions_left s n (i + 1)) =
          ap (λ (τs : List Transition). sum_into w q τs) (left-next s n i h) ∙ rw e in
          omega (arith, f, g, inv.left q l p)
      go q l p false e =
          let f = r.elsewhere q (λ d. eqb-false (out_of s (transition_bytes * i)) q e (sym d)) in
          let g : sum_into w q (transitions_left s n i) ≡ 0 + sum_into w q (transitions_left s n (i + 1)) =
          ap (λ (τs : List Transition). sum_into w q τs) (left-next s n i h) ∙ rw e in
          omega (arith, f, g, inv.left q l p)

  pub sums-end : {m : List ℕ} {i : ℕ} → SumsFrom w s n m i → n ≤ i → SumsInto w (transitions_in s n) m
  sums-end {m} {i} inv h = record {
    size = inv.size;
    each = λ q l p.
        omega (arith, inv.left q l p, ap (λ (τs : List Transition). sum_into w q τs) (left-none s n i h));
  }

-- a product, cut at its cap, is added to the byte at o
pub raised-put : (w : ℕ → ℕ) (out p : ℕ) {m : List ℕ} {o x more : ℕ} → length m ≡ byte_values → o < byte_values →
    o ≡ out → x ≡ min sum_cap (entry m o + more) → more ≡ min product_cap p → Raised w out p m (set m o x)
raised-put w out p {m} {o} {x} {more} size h e f g = record {
  size = length-set m o x;
  here = λ _.
      ap (entry (set m o x)) (sym e) ∙ get_or-set_same m o x 0 (omega arith) ∙ sum
      ∙ ap (λ (q : ℕ). min sum_cap (entry m q + p)) e;
  elsewhere = λ q d. get_or-set_other m o q x 0 (λ l. d (omega (arith, e, l)));
}
  where
    sum : x ≡ min sum_cap (entry m o + p)
    sum = omega arith

-- ---- over all transitions

-- `sum` is `more` and the sum over the transitions before number i
pub record SumFrom (w : ℕ → ℕ) (s : List ℕ) (n more limit sum i : ℕ) : Type 0 where
  pub within : i ≤ n
  pub small : sum ≤ limit
  pub left : sum + sum_over w (transitions_left s n i) ≡ sum_over w (transitions_in s n) + more

module _ {w : ℕ → ℕ} {s : List ℕ} {n more limit : ℕ} where
  pub sum-start : more ≤ limit → SumFrom w s n more limit more 0
  sum-start h = record {
    within = omega arith;
    small = omega arith;
    left = omega (arith, ap (sum_over w) (left-all s n));
  }

  pub sum-next : {sum sum' i x : ℕ} → limit ≤ max_product → SumFrom w s n more limit sum i → i < n →
      x ≡ min product_cap (product_over w (nth_transition s i).args) → sum' ≡ sum + x → sum' ≤ limit →
      SumFrom w s n more limit sum' (i + 1)
  sum-next {sum} {sum'} {i} {x} few inv h e f g = record {
    within = omega arith;
    small = g;
    left = omega (arith, inv.left, ap (sum_over w) (left-next s n i h));
  }

  pub sum_over_lem : {sum i x : ℕ} → limit ≤ max_product → SumFrom w s n more limit sum i → i < n →
      x ≡ min product_cap (product_over w (nth_transition s i).args) → limit < sum + x →
      false ≡ leb (sum_over w (transitions_in s n) + more) limit
  sum_over_lem {sum} {i} {x} few inv h e f =
      sym (lt-leb (sum_over w (transitions_in s n) + more) limit
      (omega (arith, inv.left, ap (sum_over w) (left-next s n i h))))

  pub sum-end : {sum i : ℕ} → SumFrom w s n more limit sum i → n ≤ i →
      true ≡ leb (sum_over w (transitions_in s n) + more) limit
  sum-end {sum} {i} inv h =
      sym (le-leb (sum_over w (transitions_in s n) + more) limit
      (omega (arith, inv.left, inv.small, ap (sum_over w) (left-none s n i h))))

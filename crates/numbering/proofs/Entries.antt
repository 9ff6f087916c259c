-- Packed transitions by index.
use mathlib.Core.List.{List, [], ◌++◌, ◌∷◌, map}
use mathlib.Core.Bool.{true}
use mathlib.Core.Path.{◌∙◌, ◌≡◌, ap, refl, sym}
use Prim.Native.Nat.{◌+◌, ◌<◌, ◌≤◌, suc, zero, ℕ}
use native.Mathlib.Nat.{zero-add}
use native.Mathlib.Numerals.{add-one}
use native.Mathlib.Omega.{arith}
use lib.ListN.{get_or, length}
use Rattle.automata.specs.Automaton.{Transition}
use Rattle.automata.specs.Order.{precedes, rising, rising_from}
use Rattle.lists.specs.Positions.{up_from}
use Rattle.lists.specs.Tests.{◌∈◌}
use Rattle.packed.specs.Heads.{nth_packed, packed_in}
use Rattle.lists.proofs.Intervals.{get_d-tabulated, get_d-tabulated-beyond, in-tabulated, length-tabulated}
use Rattle.lists.proofs.Intervals.{tabulated-in, tabulated-suc}
use Rattle.lists.proofs.Tests.{and_both}

module _ (hs us : List ℕ) where
  pub packed_in-length : (n : ℕ) → length (packed_in hs us n) ≡ n
  unfolding packed_in
  packed_in-length n = length-tabulated (nth_packed hs us) 0 n

  pub packed_in-suc : (n : ℕ) → packed_in hs us (n + 1) ≡ packed_in hs us n ++ (nth_packed hs us n ∷ [])
  unfolding packed_in
  packed_in-suc n =
      ap (λ i. map (nth_packed hs us) (up_from 0 i)) (add-one n) ∙ tabulated-suc (nth_packed hs us) 0 n
      ∙ ap (λ i. map (nth_packed hs us) (up_from 0 n) ++ (nth_packed hs us i ∷ [])) (zero-add n)

  pub in-packed_in : (n i : ℕ) → i < n → nth_packed hs us i ∈ packed_in hs us n
  unfolding packed_in
  in-packed_in n i h = in-tabulated (nth_packed hs us) 0 n i (omega arith) (omega arith)

  pub packed_in-in : (n : ℕ) (τ : Transition) → τ ∈ packed_in hs us n → (i : ℕ) × (i < n) × (τ ≡ nth_packed hs us i)
  unfolding packed_in
  packed_in-in n τ m = let (i, h, l, e) = tabulated-in (nth_packed hs us) 0 n τ m in (i, omega arith, e)

  pub packed_in-nth : (n i : ℕ) (d : Transition) → i < n → get_or (packed_in hs us n) i d ≡ nth_packed hs us i
  unfolding packed_in
  packed_in-nth n i d h = get_d-tabulated (nth_packed hs us) 0 n i d h ∙ ap (nth_packed hs us) (zero-add i)

  pub packed_in-beyond : (n i : ℕ) (d : Transition) → n ≤ i → get_or (packed_in hs us n) i d ≡ d
  unfolding packed_in
  packed_in-beyond n i d h = get_d-tabulated-beyond (nth_packed hs us) 0 n i d h

  rising-after : (k n : ℕ) →
      ((i : ℕ) → k ≤ i → i < k + n → precedes (nth_packed hs us i) (nth_packed hs us (i + 1)) ≡ true) →
      rising_from (nth_packed hs us k) (map (nth_packed hs us) (up_from (suc k) n)) ≡ true
  rising-after k zero h = refl
  rising-after k (suc n) h =
      and_both (ap (λ i. precedes (nth_packed hs us k) (nth_packed hs us i)) (sym (add-one k))
      ∙ h k (omega arith) (omega arith)) (rising-after (suc k) n (λ i a b. h i (omega arith) (omega arith)))

  -- transitions rise if each but the last comes before the next
  pub rising-each : (n : ℕ) →
      ((i : ℕ) → i + 1 < n → precedes (nth_packed hs us i) (nth_packed hs us (i + 1)) ≡ true) →
      rising (packed_in hs us n) ≡ true
  unfolding packed_in
  rising-each zero h = refl
  rising-each (suc n) h = rising-after 0 n (λ i a b. h i (omega arith))

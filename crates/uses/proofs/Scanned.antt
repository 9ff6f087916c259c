-- The value of each return of the scan: for one slot, one place, one transition, all transitions, and the hint.
use mathlib.Core.Bool.{Bool, ◌&&◌, cond, false, not, true, true≢false}
use mathlib.Core.List.{List}
use mathlib.Core.Path.{◌∙◌, ◌≡◌, ap, ap₂, refl, sym}
use Prim.Native.Nat.{◌*◌, ◌<◌, ◌≤◌, min, ℕ}
use native.Mathlib.Nat.{zero-add}
use native.Mathlib.Omega.{arith}
use lib.Dec.{eqb}
use borrow.Author.Tests.{eq-eqb, eqb-false, eqb-true, ne_eqb, not-false, not-true}
use Rattle.sorted.specs.Steps.{step_at}
use Rattle.format.specs.Format.{max_arity, max_nodes, transition_bytes}
use Rattle.lists.specs.Positions.{up_from}
use Rattle.lists.specs.Tests.{every}
use Rattle.table.specs.Layout.{arg_of, arity_of, out_of}
use Rattle.uses.specs.Frames.{frame_count}
use Rattle.uses.specs.Uses.{Arrays, Hinted, covered_at, neither_at, place_agrees, product_at, product_cap, swap_agrees}
use Rattle.uses.specs.Uses.{transition_agrees, transitions_agree}
use Rattle.lists.proofs.Intervals.{at_every, every-at}
use Rattle.lists.proofs.Loops.{EveryFrom, every-start}
use Rattle.lists.proofs.Tests.{and_left, and_right}
use Rattle.uses.proofs.Comparing.{or-eq, or-ne}
use Rattle.uses.proofs.Counting.{cap-equal}

module _ (a : Arrays) (s : List ℕ) (at k : ℕ) where
  pub covered-is : {x y : ℕ} → x ≡ min product_cap (product_at a.weights s at k) →
      y ≡ frame_count s at k a.labels a.arities a.children a.states a.size a.first a.second →
      y ≤ max_nodes → eqb x y ≡ covered_at a s at k
  unfolding covered_at
  covered-is {x} {y} e f h =
      ap₂ eqb e refl ∙ cap-equal (product_at a.weights s at k) y (omega arith)
      ∙ ap (eqb (product_at a.weights s at k)) f

module _ (a : Arrays) (s : List ℕ) (c at k q : ℕ) where
  pub swap-same : {x y : ℕ} → x ≡ step_at s c at k q → y ≡ out_of s at → x ≡ y → true ≡ swap_agrees a s c at k q
  unfolding swap_agrees
  swap-same e f d = or-eq (step_at s c at k q) (out_of s at) (covered_at a s at k) (sym e ∙ d ∙ f)

  pub swap-covered : {x y : ℕ} → x ≡ step_at s c at k q → y ≡ out_of s at → (x ≡ y → ⊥) → {b : Bool} →
      b ≡ covered_at a s at k → b ≡ swap_agrees a s c at k q
  unfolding swap_agrees
  swap-covered e f n g =
      or-ne (step_at s c at k q) (out_of s at) (covered_at a s at k) (λ d. n (e ∙ d ∙ sym f)) g

module _ (a : Arrays) (s : List ℕ) (c at p q k : ℕ) {x y : ℕ} (e : x ≡ arg_of s at k) (f : y ≡ p) where
  pub place-first : x ≡ y → {b : Bool} → b ≡ swap_agrees a s c at k q → b ≡ place_agrees a s c at p q k
  place-first d g = g ∙ rw (eq-eqb (arg_of s at k) p (sym e ∙ d ∙ f))

  module _ {z : ℕ} (h : z ≡ q) (n : x ≡ y → ⊥) where
    pub place-second : x ≡ z → {b : Bool} → b ≡ swap_agrees a s c at k p → b ≡ place_agrees a s c at p q k
    place-second d g =
        g ∙ rw (ne_eqb (arg_of s at k) p (λ i. n (e ∙ i ∙ sym f)), eq-eqb (arg_of s at k) q (sym e ∙ d ∙ h))

    pub place-neither : (x ≡ z → ⊥) → true ≡ place_agrees a s c at p q k
    place-neither o =
        rw (ne_eqb (arg_of s at k) p (λ i. n (e ∙ i ∙ sym f)), ne_eqb (arg_of s at k) q (λ i. o (e ∙ i ∙ sym h)))

-- x is p or q
module _ (x p q : ℕ) (n : (not (eqb x p) && not (eqb x q)) ≡ false) where
  not_first : eqb x p ≡ false → x ≡ q
  not_first i = eqb-true x q (not-false (eqb x q) (sym (ap (λ (d : Bool). not d && not (eqb x q)) i) ∙ n))

  -- y is x
  pub own-either : {y : ℕ} → y ≡ cond (eqb x p) p q → y ≡ x
  own-either {y} g = go (eqb x p) refl
    where
      go : (d : Bool) → eqb x p ≡ d → y ≡ x
      go true i = g ∙ ap (λ (d : Bool). cond d p q) i ∙ sym (eqb-true x p i)
      go false i = g ∙ ap (λ (d : Bool). cond d p q) i ∙ sym (not_first i)

module _ (a : Arrays) (s : List ℕ) (c at p q k : ℕ) {x : ℕ} (e : x ≡ arg_of s at k) where
  pub place_other : (not (eqb x p) && not (eqb x q)) ≡ true → true ≡ place_agrees a s c at p q k
  place_other n =
      place-neither a s c at p q k e refl refl (eqb-false x p (not-true (eqb x p) (and_left (not (eqb x p)) _ n)))
      (eqb-false x q (not-true (eqb x q) (and_right (not (eqb x p)) _ n)))

  pub place-either : (not (eqb x p) && not (eqb x q)) ≡ false → {y : ℕ} → y ≡ cond (eqb x p) q p → {b : Bool} →
      b ≡ swap_agrees a s c at k y → b ≡ place_agrees a s c at p q k
  place-either n {y} g {b} h = go (eqb x p) refl
    where
      go : (d : Bool) → eqb x p ≡ d → b ≡ place_agrees a s c at p q k
      go true i =
          place-first a s c at p q k e refl (eqb-true x p i)
          (h ∙ ap (swap_agrees a s c at k) (g ∙ ap (λ (d : Bool). cond d q p) i))
      go false i =
          place-second a s c at p q k e refl refl (eqb-false x p i) (not_first x p q n i)
          (h ∙ ap (swap_agrees a s c at k) (g ∙ ap (λ (d : Bool). cond d q p) i))

module _ (a : Arrays) (s : List ℕ) (c p q i : ℕ) where
  pub agrees_start : EveryFrom (transition_agrees a s c p q i) (place_agrees a s c (transition_bytes * i) p q)
      (arity_of s (transition_bytes * i)) 0
  unfolding transition_agrees
  agrees_start = every-start (arity_of s (transition_bytes * i)) (zero-add (arity_of s (transition_bytes * i)))

  -- a transition that has neither state as an argument agrees
  pub agrees-unused : ((k : ℕ) → k < arity_of s (transition_bytes * i) → arg_of s (transition_bytes * i) k ≡ p → ⊥) →
      ((k : ℕ) → k < arity_of s (transition_bytes * i) → arg_of s (transition_bytes * i) k ≡ q → ⊥) →
      transition_agrees a s c p q i ≡ true
  unfolding transition_agrees
  agrees-unused f g =
      at_every (place_agrees a s c (transition_bytes * i) p q) 0 (arity_of s (transition_bytes * i)) (λ k _ h.
      let l : k < arity_of s (transition_bytes * i) = omega arith in
      rw (ne_eqb (arg_of s (transition_bytes * i) k) p (f k l), ne_eqb (arg_of s (transition_bytes * i) k) q (g k l)))

  pub agrees-neither : arity_of s (transition_bytes * i) ≤ max_arity → {b : Bool} →
      b ≡ every (neither_at s (transition_bytes * i) p q) (up_from 0 max_arity) → b ≡ true →
      true ≡ transition_agrees a s c p q i
  agrees-neither narrow e d =
      sym (agrees-unused
      (λ k h. eqb-false (arg_of s at k) p (not-true _ (and_left _ _ (neither k h))))
      (λ k h. eqb-false (arg_of s at k) q (not-true _ (and_right (not (eqb (arg_of s at k) p)) _ (neither k h)))))
    where
      at : ℕ
      at = transition_bytes * i

      neither : (k : ℕ) → k < arity_of s (transition_bytes * i) → neither_at s (transition_bytes * i) p q k ≡ true
      neither k h =
          every-at (neither_at s (transition_bytes * i) p q) 0 max_arity (sym e ∙ d) k (omega arith) (omega arith)

  pub hint-at : i < c → {b : Bool} → b ≡ transition_agrees a s c p q i → Hinted a s c p q b
  hint-at h {b} e = record { refused = λ d. go d (transitions_agree a s c p q) refl }
    where
      go : b ≡ false → (r : Bool) → transitions_agree a s c p q ≡ r → transitions_agree a s c p q ≡ false
      go d false f = f
      go d true f =
          absurd (true≢false
          (sym (every-at (transition_agrees a s c p q) 0 c f i (omega arith) (omega arith)) ∙ sym e ∙ d))

pub hint-none : (a : Arrays) (s : List ℕ) (c p q : ℕ) → Hinted a s c p q true
hint-none a s c p q = record { refused = λ e. absurd (true≢false e) }

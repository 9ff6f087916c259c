-- Loops that count and multiply: what is done and what is left make up the whole.
use mathlib.Core.Bool.{Bool, false, true}
use mathlib.Core.List.{List, ◌∷◌}
use mathlib.Core.Path.{◌∙◌, ◌≡◌, ap, refl, subst, sym}
use Prim.Native.Nat.{◌*◌, ◌+◌, ◌-◌, ◌<◌, ◌≤◌, min, suc, zero, ℕ}
use native.Mathlib.Nat.{add-zero, mul-one, one-mul, zero-add}
use native.Mathlib.Omega.{arith}
use lib.Dec.{eqb, ltb}
use lib.ListN.{length}
use borrow.Author.Tests.{eq-eqb, eqb-false, eqb-true, ltb-false, ltb-true, ne_eqb}
use Rattle.automata.specs.Totals.{product_over}
use Rattle.lists.specs.Positions.{up_from}
use Rattle.lists.specs.Tests.{bit, filter}
use Rattle.uses.specs.Uses.{product_cap}
use Rattle.lists.proofs.Loops.{up_from-next, up_from-none, up_from-whole}
use Rattle.pairs.proofs.Products.{cap-step}

-- ---- how many numbers pass a test

-- n numbers below i pass, and n and those from i on that pass add up to s; i may be beyond the end
pub record CountFrom (s : ℕ) (p : ℕ → Bool) (m n i : ℕ) : Type 0 where
  pub within : n ≤ m
  pub small : n ≤ i
  pub left : n + length (filter p (up_from i (m - i))) ≡ s

filter-here : (p : ℕ → Bool) (i : ℕ) (xs : List ℕ) → length (filter p (i ∷ xs)) ≡ bit (p i) + length (filter p xs)
filter-here p i xs = go (p i) refl
  where
    go : (b : Bool) → p i ≡ b → length (filter p (i ∷ xs)) ≡ bit b + length (filter p xs)
    go true e = rw e (omega arith)
    go false e = rw e (sym (zero-add (length (filter p xs))))

module _ {p : ℕ → Bool} {m : ℕ} where
  pub count-start : CountFrom (length (filter p (up_from 0 m))) p m 0 0
  count-start = record {
    within = omega arith;
    small = omega arith;
    left =
        zero-add (length (filter p (up_from 0 (m - 0))))
        ∙ ap (λ (ks : List ℕ). length (filter p ks)) (sym (up_from-whole 0 m m (omega arith)));
  }

  pub count_small : {s n i x : ℕ} → CountFrom s p m n i → x ≡ bit (p i) → n + x ≤ i + 1
  count_small {s} {n} {i} {x} inv e = go (p i) e
    where
      go : (b : Bool) → x ≡ bit b → n + x ≤ i + 1
      go true d = omega (arith, inv.small, d)
      go false d = omega (arith, inv.small, d)

  pub count_next : {s n i x : ℕ} → CountFrom s p m n i → i < m → x ≡ bit (p i) → CountFrom s p m (n + x) (i + 1)
  count_next {s} {n} {i} {x} inv h e = record {
    within = omega (arith, count_small inv e);
    small = count_small inv e;
    left =
        let z = ap (λ (ks : List ℕ). length (filter p ks)) (up_from-next i m h)
        ∙ filter-here p i (up_from (i + 1) (m - (i + 1))) in
        omega (arith, inv.left, z, e);
  }

  count-skip : {s n i : ℕ} → CountFrom s p m n i → (i < m → p i ≡ false) → CountFrom s p m n (i + 1)
  count-skip {s} {n} {i} inv f = record {
    within = inv.within;
    small = omega (arith, inv.small);
    left = go (ltb i m) refl;
  }
    where
      go : (b : Bool) → ltb i m ≡ b → n + length (filter p (up_from (i + 1) (m - (i + 1)))) ≡ s
      go true e =
          let h = ltb-true i m e in
          let z = ap (λ (ks : List ℕ). length (filter p ks)) (up_from-next i m h)
          ∙ filter-here p i (up_from (i + 1) (m - (i + 1))) in
          omega (arith, inv.left, z, ap bit (f h))
      go false e =
          let h = ltb-false i m e in
          let y = ap (λ (ks : List ℕ). length (filter p ks)) (up_from-none i m h) in
          let z = ap (λ (ks : List ℕ). length (filter p ks)) (up_from-none (i + 1) m (omega arith)) in
          omega (arith, inv.left, y, z)

  -- the count stays if none of the next d numbers passes
  pub count_past : {s n i : ℕ} (d : ℕ) → CountFrom s p m n i → ((x : ℕ) → i ≤ x → x < i + d → x < m → p x ≡ false) →
      CountFrom s p m n (i + d)
  count_past {s} {n} {i} zero inv f = subst (CountFrom s p m n) (sym (add-zero i)) inv
  count_past {s} {n} {i} (suc d) inv f =
      let e : i + 1 + d ≡ i + suc d = omega arith in
      subst (CountFrom s p m n) e
      (count_past {i = i + 1} d (count-skip inv (f i (omega arith) (omega arith)))
      (λ x a b. f x (omega arith) (omega arith)))

  pub count-end : {s n i : ℕ} → CountFrom s p m n i → m ≤ i → n ≡ s
  count-end {s} {n} {i} inv h =
      let z = ap (λ (ks : List ℕ). length (filter p ks)) (up_from-none i m h) in omega (arith, inv.left, z)

-- ---- a product up to a cap

-- p is the product of the numbers below i, up to the cap
pub record ProductFrom (s : ℕ) (g : ℕ → ℕ) (n p i : ℕ) : Type 0 where
  pub within : i ≤ n
  pub small : p ≤ product_cap
  pub left : min product_cap (p * product_over g (up_from i (n - i))) ≡ min product_cap s

module _ {g : ℕ → ℕ} {n : ℕ} where
  pub product-start : ProductFrom (product_over g (up_from 0 n)) g n 1 0
  product-start = record {
    within = omega arith;
    small = omega arith;
    left =
        ap (min product_cap) (one-mul (product_over g (up_from 0 (n - 0))))
        ∙ ap (λ (ks : List ℕ). min product_cap (product_over g ks)) (sym (up_from-whole 0 n n (omega arith)));
  }

  pub product-next : {s p i x p' : ℕ} → ProductFrom s g n p i → i < n → x ≡ g i → p' ≡ min product_cap (p * x) →
      ProductFrom s g n p' (i + 1)
  product-next {s} {p} {i} {x} {p'} inv h e f = record {
    within = omega arith;
    small = omega arith;
    left =
        let r = product_over g (up_from (i + 1) (n - (i + 1))) in
        ap (λ (z : ℕ). min product_cap (z * r)) f
        ∙ cap-step product_cap p x r
        ∙ ap (λ (z : ℕ). min product_cap (p * (z * r))) e
        ∙ ap (λ (ks : List ℕ). min product_cap (p * product_over g ks)) (sym (up_from-next i n h))
        ∙ inv.left;
  }

  pub product-end : {s p i : ℕ} → ProductFrom s g n p i → n ≤ i → p ≡ min product_cap s
  product-end {s} {p} {i} inv h =
      let e = ap (λ (ks : List ℕ). min product_cap (p * product_over g ks)) (up_from-none i n h) in
      let one : min product_cap (p * 1) ≡ p = ap (min product_cap) (mul-one p) ∙ omega (arith, inv.small) in
      sym one ∙ sym e ∙ inv.left

-- a number below the cap equals the product if and only if it equals the capped product
pub cap-equal : (p n : ℕ) → n < product_cap → eqb (min product_cap p) n ≡ eqb p n
cap-equal p n h = go (eqb p n) refl
  where
    go : (b : Bool) → eqb p n ≡ b → eqb (min product_cap p) n ≡ b
    go true e = let d = eqb-true p n e in eq-eqb (min product_cap p) n (omega arith)
    go false e = let d = eqb-false p n e in ne_eqb (min product_cap p) n (λ z. d (omega arith))

-- The product over the arguments of a transition, one argument after another: the product so far and the product of
-- the rest.
use mathlib.Core.List.{List, map}
use mathlib.Core.Path.{◌∙◌, ◌≡◌, ap, sym}
use Prim.Native.Nat.{◌*◌, ◌+◌, ◌-◌, ◌<◌, ◌≤◌, min, ℕ}
use native.Mathlib.Nat.{mul_assoc, mul-one, mul-zero, one-mul, sub-zero, zero-mul}
use native.Mathlib.Omega.{arith}
use Rattle.automata.specs.Totals.{product_over}
use Rattle.lists.specs.Positions.{up_from}
use Rattle.lists.proofs.Limits.{min-product}
use Rattle.lists.proofs.Loops.{up_from-next, up_from-none}
use Rattle.table.specs.Layout.{arg_of, arity_of, transition_at}
use Rattle.pairs.specs.Counts.{product_cap}

pub cap-step : (c p x y : ℕ) → min c (min c (p * x) * y) ≡ min c (p * (x * y))
cap-step c p x y =
    let e : min c (min c (p * x)) ≡ min c (p * x) = omega arith in
    min-product c (min c (p * x)) y ∙ ap (λ (z : ℕ). min c (z * min c y)) e ∙ sym (min-product c (p * x) y)
    ∙ ap (min c) (mul_assoc p x y)

-- the arguments from place k on
abbrev args_left : List ℕ → ℕ → ℕ → List ℕ
args_left s at k = map (arg_of s at) (up_from k (arity_of s at - k))

-- p is the product over the arguments before place k, up to the cap
pub record ProductFrom (w : ℕ → ℕ) (s : List ℕ) (at p k : ℕ) : Type 0 where
  pub within : k ≤ arity_of s at
  pub small : p ≤ product_cap
  pub left : min product_cap (p * product_over w (args_left s at k)) ≡
      min product_cap (product_over w (transition_at s at).args)

module _ {w : ℕ → ℕ} {s : List ℕ} {at : ℕ} where
  pub product-start : ProductFrom w s at 1 0
  product-start = record {
    within = omega arith;
    small = omega arith;
    left =
        ap (min product_cap) (one-mul (product_over w (args_left s at 0)))
        ∙ ap (λ (n : ℕ). min product_cap (product_over w (map (arg_of s at) (up_from 0 n)))) (sub-zero (arity_of s at));
  }

  -- x is the number of argument k
  pub product-next : {p k q x p' : ℕ} → ProductFrom w s at p k → k < arity_of s at → q ≡ arg_of s at k → x ≡ w q →
      p' ≡ min product_cap (p * x) → ProductFrom w s at p' (k + 1)
  product-next {p} {k} {q} {x} {p'} inv h e f g = record {
    within = omega arith;
    small = omega arith;
    left =
        ap (λ (z : ℕ). min product_cap (z * product_over w (args_left s at (k + 1)))) g
        ∙ cap-step product_cap p x (product_over w (args_left s at (k + 1)))
        ∙ ap (λ (z : ℕ). min product_cap (p * (z * product_over w (args_left s at (k + 1))))) (f ∙ ap w e)
        ∙ ap (λ (ks : List ℕ). min product_cap (p * product_over w (map (arg_of s at) ks)))
        (sym (up_from-next k (arity_of s at) h))
        ∙ inv.left;
  }

  pub product-end : {p k : ℕ} → ProductFrom w s at p k → arity_of s at ≤ k →
      p ≡ min product_cap (product_over w (transition_at s at).args)
  product-end {p} {k} inv h =
      let e = ap (λ (ks : List ℕ). min product_cap (p * product_over w (map (arg_of s at) ks)))
      (up_from-none k (arity_of s at) h) in
      let one : min product_cap (p * 1) ≡ p = ap (min product_cap) (mul-one p) ∙ omega (arith, inv.small) in
      sym one ∙ sym e ∙ inv.left

  -- one number that is 0 makes the product 0
  pub product-none : {p k q x : ℕ} → ProductFrom w s at p k → k < arity_of s at → q ≡ arg_of s at k → x ≡ w q → x ≡ 0 →
      0 ≡ min product_cap (product_over w (transition_at s at).args)
  product-none {p} {k} {q} {x} inv h e f z =
      let n : p * x ≡ 0 = ap (λ (y : ℕ). p * y) z ∙ mul-zero p in
      let next = product-next {p' = 0} inv h e f (omega (arith, n)) in
      let r = product_over w (args_left s at (k + 1)) in
      let b : 0 ≡ min product_cap (0 * r) = omega (arith, zero-mul r) in
      b ∙ next.left

-- The product of the numbers of pairs over the arguments of a slot.
use mathlib.Core.List.{List, ◌++◌, map}
use mathlib.Core.Path.{◌∙◌, ◌≡◌, ap, ap₂, refl, sym}
use Prim.Native.Nat.{◌*◌, ◌+◌, ◌-◌, ◌<◌, ◌≤◌, suc, zero, ℕ}
use native.Mathlib.Nat.{one-mul, zero-add}
use native.Mathlib.Omega.{arith}
use lib.ListN.{get_or}
use Rattle.automata.specs.Totals.{product_over}
use Rattle.sorted.specs.Steps.{slot_at}
use Rattle.lists.specs.Positions.{up_from}
use Rattle.table.specs.Layout.{arg_of, arity_of}
use Rattle.uses.specs.Uses.{factor_at, product_at}
use Rattle.uses.proofs.Factors.{factor-out, factor-there}

product-all : (w f g : ℕ → ℕ) (d n : ℕ) → ((x : ℕ) → d ≤ x → x < d + n → g x ≡ w (f x)) →
    product_over g (up_from d n) ≡ product_over w (map f (up_from d n))
product-all w f g d zero e = refl
product-all w f g d (suc n) e =
    ap₂ ◌*◌ (e d (omega arith) (omega arith)) (product-all w f g (suc d) n (λ x a b. e x (omega arith) (omega arith)))

-- place d + k has factor 1
product-around : (w f g : ℕ → ℕ) (d k n : ℕ) → k < n → g (d + k) ≡ 1 →
    ((x : ℕ) → d ≤ x → x < d + n → (x ≡ d + k → ⊥) → g x ≡ w (f x)) →
    product_over g (up_from d n) ≡ product_over w (map f (up_from d k) ++ map f (up_from (d + k + 1) (n - (k + 1))))
product-around w f g d k zero h one e = absurd (omega arith)
product-around w f g d zero (suc n) h one e =
    let a : d + 0 ≡ d = omega arith in
    let b : suc d ≡ d + 0 + 1 = omega arith in
    let z : n ≡ suc n - (0 + 1) = omega arith in
    ap (λ (y : ℕ). y * product_over g (up_from (suc d) n)) (ap g (sym a) ∙ one)
    ∙ one-mul (product_over g (up_from (suc d) n))
    ∙ product-all w f g (suc d) n (λ x p o. e x (omega arith) (omega arith) (λ i. omega arith))
    ∙ ap₂ (λ (y u : ℕ). product_over w (map f (up_from y u))) b z
product-around w f g d (suc k) (suc n) h one e =
    let a : suc d + k ≡ d + suc k = omega arith in
    let z : n - (k + 1) ≡ suc n - (suc k + 1) = omega arith in
    ap₂ ◌*◌ (e d (omega arith) (omega arith) (λ i. omega arith))
    (product-around w f g (suc d) k n (omega arith) (ap g a ∙ one)
    (λ x p o i. e x (omega arith) (omega arith) (λ y. i (omega arith))))
    ∙ ap₂ (λ (y u : ℕ). w (f d) * product_over w (map f (up_from (suc d) k) ++ map f (up_from (y + 1) u))) a z

pub slot-product : (v : ℕ → ℕ) (w s : List ℕ) (at k : ℕ) → k < arity_of s at →
    ((x : ℕ) → x < arity_of s at → get_or w (arg_of s at x) 0 ≡ v (arg_of s at x)) →
    product_at w s at k ≡ product_over v ((slot_at s at k).before ++ (slot_at s at k).after)
slot-product v w s at k h e =
    product-around v (arg_of s at) (factor_at w s at k) 0 k (arity_of s at) h
    (sym (factor-out w s at k (0 + k) (zero-add k)))
    (λ x a b n. sym (factor-there w s at k x (λ z. n (omega arith)) refl refl) ∙ e x (omega arith))
    ∙ ap (λ (y : ℕ). product_over v (map (arg_of s at) (up_from 0 k) ++
    map (arg_of s at) (up_from (y + 1) (arity_of s at - (k + 1))))) (zero-add k)
